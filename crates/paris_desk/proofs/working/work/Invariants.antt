use Rattle.paris_desk.proofs.Turns.{Ran}
use Rattle.paris_desk.proofs.working.work.Given as goal

abbrev pub invariant-loop-ran : goal.invariant-loop-ran
invariant-loop-ran g l = Ran l.ran l.fn.seat l.seat
