-- The levels so far had their turns.
use Rattle.std.proofs.Common.{◌-◌, length}
use Rattle.paris_book.specs.Rounds.{Advances}
use Rattle.paris_book.proofs.loose.Loose.run_levels.Given as goal

abbrev pub invariant-loop-start : goal.invariant-loop-start
invariant-loop-start g l = Advances l.ran l.fn.self l.self

abbrev pub decreases-loop-start : goal.decreases-loop-start
decreases-loop-start g l = length l.rows.items - l.start
