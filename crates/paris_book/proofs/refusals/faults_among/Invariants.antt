-- The faults of the rows so far.
use Rattle.std.proofs.Common.{◌≡◌, take}
use Rattle.paris_book.specs.Among.{faults_kept}
use Rattle.paris_book.proofs.refusals.faults_among.Given as goal

abbrev pub invariant-loop-place : goal.invariant-loop-place
invariant-loop-place l = l.faults.items ≡ faults_kept (take l.place l.rows.rows)
