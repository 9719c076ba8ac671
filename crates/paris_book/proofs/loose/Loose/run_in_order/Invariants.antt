-- The rows before this place had their turns.
use Rattle.std.proofs.Common.{◌-◌, length}
use Rattle.paris_book.proofs.InOrder.{HadTurns}
use Rattle.paris_book.proofs.loose.Loose.run_in_order.Given as goal

abbrev pub invariant-loop-place : goal.invariant-loop-place
invariant-loop-place g l = HadTurns l.fn.self l.from l.ran l.self

abbrev pub decreases-loop-place : goal.decreases-loop-place
decreases-loop-place g l = length l.fn.self.rows - l.from
