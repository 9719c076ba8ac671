-- What a settle leaves to which memory was refused.
use Rattle.std.specs.Prelude.{◌≡◌, ◌<◌, ◌≤◌, ◌+◌, ◌++◌, ◌∷◌, ◌⊎◌, ℕ, true, false, List, Some, IsSome, drop, length, slice_get}
use Rattle.paris_names.specs.declared.ids.Spot.{Spot}
use Rattle.paris_names.specs.declared.names.KeyName.{KeyName}
use Rattle.paris_edits.specs.Rows.{is_settled}
use Rattle.paris_events.specs.CutOff.{cut_off}
use Rattle.paris_events.specs.Events.{has_value}
use Rattle.paris_events.specs.Orders.{IsIdle, after_release, take_reply}
use Rattle.paris_events.specs.Settling.{all_settled, due, unsettled_rows}
use Rattle.paris_events.specs.Show.{show_reply}
use Rattle.paris_events.specs.State.{Row, State}
use Rattle.paris_book.specs.Rounds.{RunsTo, StaySettled}
use Rattle.paris_book.specs.Steps.{left_at}
use Rattle.paris_book.specs.Wanted.{turned_all, wanted_places}

-- every row that is still unsettled stands there as it was
abbrev pub StayUnsettled : List Row → List Row → Type 0
StayUnsettled old new = (place : ℕ) (r : Row) → slice_get new place ≡ Some r → is_settled r.status ≡ false → slice_get old place ≡ Some r

-- every row was to be settled: the orders that were out are given up, and so many orders were run, each of a row that was ready. Fewer were
-- run than were due, and a row is ready. Settled rows are as they were, and so are those that are still unsettled, of which no order is out.
-- To settle it again ends where it would have ended
pub record IsStopped (ran : ℕ) (old new : State) : Type 0 where
  pub runs : RunsTo ran (after_release old) new
  pub fewer : ran < due old
  pub left : due new + ran ≡ due old
  pub rows : unsettled_rows new.rows + ran ≤ unsettled_rows old.rows
  pub ready : IsSome (take_reply new)
  pub idle : IsIdle new.rows
  pub stay : StaySettled old.rows new.rows
  pub unsettled : StayUnsettled (after_release old).rows new.rows
  pub same : all_settled new ≡ all_settled old

-- one value was to be settled: of the rows that it stands on all but so many had their turn, and it isn't shown. Settled rows are as they
-- were, and so are those that are still unsettled: one of which an order was out is out
pub record IsStoppedFor (name : KeyName) (spot : Spot) (ran : ℕ) (old new : State) : Type 0 where
  pub turned : (n : ℕ) × (new ≡ cut_off (turned_all (drop n (wanted_places old name spot)) old))
  pub pending : has_value (show_reply new name spot) ≡ false
  pub fewer : ran < due old
  pub left : due new + ran ≡ due old
  pub stay : StaySettled old.rows new.rows
  pub unsettled : StayUnsettled old.rows new.rows
  pub same : all_settled new ≡ all_settled old

-- the rows at these places, which stand from the last row to the first, had their turn up to one that is left
pub record StopsAt (places : List ℕ) (old new : State) : Type 0 where
  pub todo : List ℕ
  pub place : ℕ
  pub had : List ℕ
  pub all : places ≡ todo ++ place ∷ had
  pub state : new ≡ turned_all had old
  pub left : left_at new place ≡ true

-- the same, or there are such rows and none had its turn
abbrev pub StopsAmong : List ℕ → State → State → Type 0
StopsAmong places old new = ((new ≡ old) × (0 < length places)) ⊎ StopsAt places old new
