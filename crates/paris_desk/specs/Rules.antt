-- The rule of the log, what its step tells, and what is published of it.
use Rattle.std.specs.Prelude.{ℕ, ◌≡◌, ◌==◌, true, List, [], ◌∷◌, ◌++◌, length, MatchBool}
use Rattle.logbook.specs.Pages.{Cell, Step, View, Book, Named}
use Rattle.paris_names.specs.declared.profiles.Profile.{Profile}
use Rattle.paris_events.specs.State.{State}
use Rattle.paris_events.specs.Events.{reply_to}
use Rattle.paris_records.specs.declared.records.Entry.{Entry}
use Rattle.paris_records.specs.History.{Legal, state_of}

-- the first word is the number of entries; the second word stays 0
pub record IsKept (cells : List Cell) (log : List Entry) : Type 0 where
  pub words : cells ≡ (length log, true) ∷ (0, true) ∷ []

-- the first word of a log
abbrev pub head_of : Book → Named
head_of log = record { tracked = true; key = 0; book = log }

-- an entry may come next in a history
abbrev pub MayFollow : Profile → List Entry → Entry → Type 0
MayFollow p h e = e.reply ≡ reply_to (state_of p h) e.event

-- the entry was added to all that had been seen; or the history is another one
abbrev pub Adds : Step Entry → View Entry ℕ → ℕ → View Entry ℕ → Type 0
Adds s v found w = MatchBool (found == s.old) (w.0 ≡ v.0 ++ s.ask ∷ []) (length w.0 ≡ found)

-- what is published: the log that it is of, the history that led to the book, and the book's state
pub record Posted : Type 0 where
  pub log : Book
  pub history : List Entry
  pub state : State

-- a book of a profile is published with the history that led to it
abbrev pub posted : Profile → Book → List Entry → Posted
posted p log history = record { log = log; history = history; state = state_of p history }

-- the history is legal in the profile, and leads to the book
abbrev pub IsSound : Profile → Posted → Type 0
IsSound p x = Legal p x.history × (x.state ≡ state_of p x.history)
