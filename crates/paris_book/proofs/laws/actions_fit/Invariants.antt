-- The plans so far are fit.
use Rattle.std.proofs.Common.{take}
use Rattle.paris_book.specs.Laws.{ActionsFit}
use Rattle.paris_book.proofs.laws.actions_fit.Given as goal

abbrev pub invariant-loop-place : goal.invariant-loop-place
invariant-loop-place l = ActionsFit (take l.place l.rows.rows)
