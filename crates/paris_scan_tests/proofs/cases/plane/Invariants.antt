use Rattle.std.proofs.Common.{◌≡◌, length}
use Rattle.paris_scan_tests.proofs.cases.plane.Given as goal

abbrev pub invariant-loop-v : goal.invariant-loop-v
invariant-loop-v l = length l.plane ≡ length l.bits
