-- The rows before this place are recalled.
use Rattle.std.proofs.Common.{◌≡◌, ◌-◌, length}
use Rattle.paris_book.proofs.Recalling.{Recalled}
use Rattle.paris_book.proofs.settlement.recall_all.Given as goal

abbrev pub invariant-loop-place : goal.invariant-loop-place
invariant-loop-place l = record {
  recalled : Recalled l.fn.rows.rows l.from l.rows.rows;
  next_id : l.rows.next_id ≡ l.fn.rows.next_id;
}

abbrev pub decreases-loop-place : goal.decreases-loop-place
decreases-loop-place l = length l.fn.rows.rows - l.from
