-- The pass has come so far.
use Rattle.std.proofs.Common.{◌-◌, length}
use Rattle.paris_book.proofs.Cutting.{Passed}
use Rattle.paris_book.proofs.loose.Loose.cut_off.Given as goal

abbrev pub invariant-loop-place : goal.invariant-loop-place
invariant-loop-place l = Passed l.fn.self l.from l.self

abbrev pub decreases-loop-place : goal.decreases-loop-place
decreases-loop-place l = length l.fn.self.rows - l.from
