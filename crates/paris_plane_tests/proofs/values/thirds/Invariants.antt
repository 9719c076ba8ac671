use Rattle.std.proofs.Common.{◌≡◌, length}
use Rattle.paris_plane_tests.proofs.values.thirds.Given as goal

abbrev pub invariant-loop-v : goal.invariant-loop-v
invariant-loop-v l = length l.mask ≡ l.count
