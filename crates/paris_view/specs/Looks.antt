-- Looks of a seat: what one does to the seat, and why another one is refused.
use Rattle.std.specs.Prelude.{◌≡◌, ◌<◌, ◌≤◌, ℕ, length, Result, Err}
use mathlib.Core.List.{IsPrefix}
use Rattle.paris_names.specs.declared.faults.Fault.{Fault}
use Rattle.paris_names.specs.declared.faults.Fault.TheVariants.{StrangeSeat, NoEntry}
use Rattle.paris_names.specs.declared.ids.Spot.{Spot}
use Rattle.paris_names.specs.declared.names.KeyName.{KeyName}
use Rattle.paris_names.specs.declared.profiles.Profile.{Profile}
use Rattle.paris_events.specs.Show.{show_reply}
use Rattle.paris_events.specs.declared.events.Shown.{Shown}
use Rattle.paris_records.specs.History.{Legal, state_of}
use Rattle.paris_desk.specs.Seats.{SeatState}

-- a seat while it looks, and the answer of the look
pub record Held : Type 0 where
  pub seat : SeatState
  pub answer : Result Shown Fault

-- a seat meets a legal history that begins with its past and has no fewer entries than it was told. That is its past then
pub record Looked (profile : Profile) (s s' : SeatState) : Type 0 where
  pub begins : IsPrefix s.past s'.past
  pub legal : Legal profile s'.past
  pub front : (s.front ≤ s'.front) × (s'.front ≡ length s'.past)
  pub same : (s'.number ≡ s.number) × (s'.receipts ≡ s.receipts)

-- a seat meets a legal history that begins with its past and has so many entries, fewer than it was told. That is its past then
pub record FallsShort (profile : Profile) (f l : ℕ) (s s' : SeatState) : Type 0 where
  pub told : (f ≡ s.front) × (l < s.front)
  pub begins : IsPrefix s.past s'.past
  pub legal : Legal profile s'.past
  pub len : l ≡ length s'.past
  pub same : (s'.number ≡ s.number) × (s'.receipts ≡ s.receipts) × (s'.front ≡ s.front)

-- why a seat doesn't look at a key: it meets no history, or one after which the machine shows nothing
abbrev pub Missed : Profile → KeyName → Spot → SeatState → SeatState → Fault → Type 0
Missed p name spot s s' NoEntry = s' ≡ s
Missed p name spot s s' (StrangeSeat f l) = FallsShort p f l s s'
Missed p name spot s s' fault = Looked p s s' × (Err fault ≡ show_reply (state_of p s'.past) name spot)
