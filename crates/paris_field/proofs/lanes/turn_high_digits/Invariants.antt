use Rattle.paris_field.specs.Square.{FourLanes}
use Rattle.paris_field.proofs.Eights.{HighUpTo}
use Rattle.paris_field.proofs.lanes.turn_high_digits.Given as goal

abbrev pub invariant-loop-row : goal.invariant-loop-row
invariant-loop-row l = record {
  four : FourLanes 64 l.rows;
  turned : HighUpTo l.row l.rows l.fn.rows;
}
