-- Calls of a seat: what a recorded one does to the history and the seat, and why another one is not recorded.
use Rattle.std.specs.Prelude.{◌≡◌, ◌<◌, ◌≤◌, ◌==◌, ◌||◌, ◌⊎◌, ℕ, Bool, List, [], ◌∷◌, ◌++◌, length, nat_lt, if◌then◌else◌, Option, Some, None}
use mathlib.Core.List.{IsPrefix}
use Rattle.paris_names.specs.Faults.{number_of}
use Rattle.paris_names.specs.declared.faults.Fault.{Fault}
use Rattle.paris_names.specs.declared.faults.Fault.TheVariants.{HistoryFull, NoMemory, StrangeSeat}
use Rattle.paris_names.specs.declared.profiles.Profile.{Profile}
use Rattle.paris_events.specs.Events.{reply_to}
use Rattle.paris_events.specs.declared.events.Event.{Event}
use Rattle.paris_events.specs.declared.events.Reply.{Reply}
use Rattle.paris_records.specs.declared.records.Entry.{Entry}
use Rattle.paris_records.specs.History.{Legal, state_of, entry}
use Rattle.paris_desk.specs.Seats.{SeatState, called}

-- why a call is not recorded in a history of a length, whatever memory there is: the seat was told of more entries, or they are as many
-- as the limit
abbrev pub hold_fault : ℕ → ℕ → ℕ → Option Fault
hold_fault limit len front = if nat_lt len front then Some (StrangeSeat front len) else (if len == limit then Some (HistoryFull limit) else None)

-- from a history to the next and from a seat to the next, a call is recorded: its entry is added, with the machine's reply. The history
-- begins with the seat's past, and the next one is its past then
pub record Recorded (profile : Profile) (limit : ℕ) (h h' : List Entry) (s s' : SeatState) (event : Event) (reply : Reply) : Type 0 where
  pub due : hold_fault limit (length h) s.front ≡ None
  pub begins : IsPrefix s.past h
  pub answer : reply ≡ reply_to (state_of profile h) event
  pub history : h' ≡ h ++ entry s.number event reply ∷ []
  pub legal : Legal profile h'
  pub seat : s' ≡ called s h' event reply

-- a seat's call is recorded: it is the next entry of a legal history, which begins with the seat's past and has no fewer entries than the
-- seat was told. With that entry the history is the seat's past
pub record Called (profile : Profile) (s s' : SeatState) (event : Event) (reply : Reply) : Type 0 where
  pub history : List Entry
  pub told : s.front ≤ length history
  pub begins : IsPrefix s.past history
  pub answer : reply ≡ reply_to (state_of profile history) event
  pub legal : Legal profile (history ++ entry s.number event reply ∷ [])
  pub seat : s' ≡ called s (history ++ entry s.number event reply ∷ []) event reply

-- what a seat can know of why its call is not recorded: the history is shorter than the seat was told, or has as many entries as the
-- limit, or memory was refused
abbrev pub Excused : ℕ → ℕ → Fault → Type 0
Excused limit front fault = ((l : ℕ) × (fault ≡ StrangeSeat front l) × (l < front)) ⊎ ((fault ≡ HistoryFull limit) ⊎ (fault ≡ NoMemory))

-- a seat's call is not recorded: it is as it was
abbrev pub Unrecorded : ℕ → SeatState → SeatState → Fault → Type 0
Unrecorded limit s s' fault = (s' ≡ s) × Excused limit s.front fault

-- whether a fault says that a call is not recorded: its number is 18, 19 or 21
abbrev pub is_unrecorded : Fault → Bool
is_unrecorded fault = (number_of fault == 18) || ((number_of fault == 19) || (number_of fault == 21))
