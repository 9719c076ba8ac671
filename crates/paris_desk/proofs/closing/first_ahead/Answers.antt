use Rattle.std.proofs.Common.{◌≤◌, length, arith}
use borrow.Author.Count.{below_more}
use Rattle.paris_desk.specs.Closing.{past_of}
use Rattle.paris_desk.proofs.closing.first_ahead.Goals as goal

pub loop-number-preserved : goal.loop-number-preserved
loop-number-preserved g c =
    below_more (λ n. length (past_of n c.args.seats.now) ≤ length c.args.known.now) c.loop-number.number c.loop-number.invariant (omega arith)
