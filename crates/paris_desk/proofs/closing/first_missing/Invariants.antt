use Rattle.paris_desk.specs.Closing.{AreHere}
use Rattle.paris_desk.proofs.closing.first_missing.Given as goal

abbrev pub invariant-loop-number : goal.invariant-loop-number
invariant-loop-number g l = AreHere l.number l.seats
