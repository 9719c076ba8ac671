use Rattle.std.proofs.Common.{◌≡◌, length}
use Rattle.paris_plane_tests.proofs.planes.tells_bits.Given as goal

abbrev pub invariant-loop-v : goal.invariant-loop-v
invariant-loop-v l = length l.other ≡ l.count
