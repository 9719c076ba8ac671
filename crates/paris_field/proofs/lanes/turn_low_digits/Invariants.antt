use Rattle.paris_field.specs.Square.{FourLanes}
use Rattle.paris_field.proofs.Eights.{LowUpTo}
use Rattle.paris_field.proofs.lanes.turn_low_digits.Given as goal

abbrev pub invariant-loop-block : goal.invariant-loop-block
invariant-loop-block l = record {
  four : FourLanes 64 l.rows;
  turned : LowUpTo l.block l.rows l.fn.rows;
}
