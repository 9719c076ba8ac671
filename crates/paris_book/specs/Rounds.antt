-- Settling by several workers: the slots of a level, and what settling leaves of a book.
use Rattle.std.specs.Prelude.{◌≡◌, ℕ, ◌+◌, ◌≤◌, zero, suc, List, [], ◌∷◌, true, false, Some, Result, Ok, Err, slice_get}
use Rattle.paris_exec.specs.Tasks.{Task}
use Rattle.paris_edits.specs.Rows.{is_settled}
use Rattle.paris_events.specs.State.{Row, State, row_ids, work_of}
use Rattle.paris_events.specs.Show.{now}
use Rattle.paris_events.specs.Orders.{IsIdle, is_ready, order_of}
use Rattle.paris_events.specs.CutOff.{cut_off}
use Rattle.paris_events.specs.Results.{kept_at}
use Rattle.paris_events.specs.Settling.{all_settled, due, is_same, unsettled_rows}
use Rattle.paris_book.specs.Steps.{own_order}
use Rattle.paris_book.specs.declared.rounds.Slot.{Slot}
use Rattle.paris_book.specs.declared.settlement.SettleFault.{SettleFault}

-- every row that was settled stands there as it was
abbrev pub StaySettled : List Row → List Row → Type 0
StaySettled old new = (place : ℕ) (r : Row) → slice_get old place ≡ Some r → is_settled r.status ≡ true → slice_get new place ≡ Some r

-- a row that is ready is run: its order was executed, and the result brought
abbrev pub Runs : State → State → Type 0
Runs s t = (place : ℕ) × (r : Row) × (slice_get s.rows place ≡ Some r) × (is_ready s place r ≡ true) × (t ≡ cut_off (kept_at s (place, r) (work_of (order_of s (place, r)))))

-- so many of these, one after another
abbrev pub RunsTo : ℕ → State → State → Type 0
RunsTo zero s t = t ≡ s
RunsTo (suc n) s t = (u : State) × RunsTo n s u × Runs u t

-- how many orders were run, by what settling answers
abbrev pub ran_of : Result ℕ SettleFault → ℕ
ran_of (Ok ran) = ran
ran_of (Err fault) = fault.ran

-- so many rows were run and others were cut off, with the pass still to come: the rows that were settled, and those that are still
-- unsettled, are as they were, and so are the orders that rows give
pub record Advances (n : ℕ) (old new : State) : Type 0 where
  pub same : all_settled new ≡ all_settled old
  pub due : due new + n ≡ due old
  pub rows : unsettled_rows new.rows + n ≤ unsettled_rows old.rows
  pub stay : StaySettled old.rows new.rows
  pub ids : row_ids new.rows ≡ row_ids old.rows
  pub left : (place : ℕ) (r : Row) → slice_get new.rows place ≡ Some r → is_settled r.status ≡ false → slice_get old.rows place ≡ Some r
  pub orders : (place : ℕ) (t : Task) → own_order old place ≡ Some t → own_order new place ≡ Some t
  pub worlds : (place : ℕ) → now new place ≡ now old place
  pub idle : IsIdle old.rows → IsIdle new.rows
  pub runs : IsIdle old.rows → RunsTo n (cut_off old) (cut_off new)

-- a slot's result is of the order that it held
pub record HasRun (old new : Slot) : Type 0 where
  pub place : new.place ≡ old.place
  pub done : (t : Task) → new.done ≡ Some t → old.order ≡ Some t

-- a task is the order that the row at a place would give now, and where the row is unsettled, its last kept result is of another work
pub record HoldsTask (s : State) (place : ℕ) (t : Task) : Type 0 where
  pub own : own_order s place ≡ Some t
  pub differs : (r : Row) → slice_get s.rows place ≡ Some r → is_settled r.status ≡ false → is_same (now s place) r ≡ false

-- so it is with a slot's order, or its result
abbrev pub HoldsOrder : State → Slot → Type 0
HoldsOrder s slot = (t : Task) → slot.order ≡ Some t → HoldsTask s slot.place t

abbrev pub HoldsResult : State → Slot → Type 0
HoldsResult s slot = (t : Task) → slot.done ≡ Some t → HoldsTask s slot.place t

-- and in all slots
abbrev pub HoldOrders : State → List Slot → Type 0
HoldOrders s [] = Unit {0}
HoldOrders s (slot ∷ slots) = HoldsOrder s slot × HoldOrders s slots

abbrev pub HoldResults : State → List Slot → Type 0
HoldResults s [] = Unit {0}
HoldResults s (slot ∷ slots) = HoldsResult s slot × HoldResults s slots
