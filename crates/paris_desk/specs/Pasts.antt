-- What is published and who sees it, and what seats learn of the history without a call.
use Rattle.std.specs.Prelude.{◌≡◌, ◌⊎◌, ℕ, List, length, max}
use mathlib.Core.List.{IsPrefix}
use mathlib.Core.Option.{some}
use lib.ListN.{get_elem?}
use Rattle.logbook.specs.Pages.{Book}
use Rattle.paris_names.specs.declared.profiles.Profile.{Profile}
use Rattle.paris_records.specs.declared.records.Entry.{Entry}
use Rattle.paris_records.specs.History.{Legal}
use Rattle.paris_desk.specs.declared.published.Saw.{Saw}
use Rattle.paris_desk.specs.Rules.{IsSound, Posted}
use Rattle.paris_desk.specs.Seats.{SeatState}

abbrev pub saw : List Entry → Saw
saw h = record { past = h }

-- what is published is of this log, is sound, and begins with what each reader saw
abbrev pub Holds : Profile → Book → Posted → List Saw → Type 0
Holds p log x views = (x.log ≡ log) × IsSound p x × ((reader : ℕ) (v : Saw) → get_elem? views reader ≡ some v → IsPrefix v.past x.history)

-- what is published then is of this log and sound, begins with what the reader saw before, and is what it saw then
abbrev pub Sees : Profile → Book → Saw → Posted → Posted → Saw → Type 0
Sees p log v x y w = (y.log ≡ log) × IsSound p y × IsPrefix v.past y.history × (w ≡ saw y.history)

-- a seat learns all that another one knows: its past is that of one of both and begins with both, and its front is the greater of what it
-- was and how long that is
pub record Learned (profile : Profile) (s other s' : SeatState) : Type 0 where
  pub own : IsPrefix s.past s'.past
  pub others : IsPrefix other.past s'.past
  pub either : (s'.past ≡ s.past) ⊎ (s'.past ≡ other.past)
  pub legal : Legal profile s'.past
  pub front : s'.front ≡ max s.front (length s'.past)
  pub same : (s'.number ≡ s.number) × (s'.receipts ≡ s.receipts)

-- a seat is put together from a past and the rest of a seat
pub record Joined (past : List Entry) (rest s : SeatState) : Type 0 where
  pub same : (s.number ≡ rest.number) × (s.receipts ≡ rest.receipts)
  pub keeps : IsPrefix rest.past past → s.past ≡ past
  pub begins : IsPrefix past s.past × IsPrefix rest.past s.past
  pub front : s.front ≡ max rest.front (length s.past)
