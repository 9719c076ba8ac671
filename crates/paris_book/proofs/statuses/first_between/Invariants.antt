-- The search from here on finds the same.
use Rattle.std.proofs.Common.{◌≡◌}
use Rattle.paris_book.specs.Statuses.{first_unsettled}
use Rattle.paris_book.proofs.statuses.first_between.Given as goal

abbrev pub invariant-loop-place : goal.invariant-loop-place
invariant-loop-place l = first_unsettled l.statuses l.start ≡ first_unsettled l.statuses l.place
