use Rattle.std.proofs.Common.{◌≡◌, length}
use Rattle.paris_plane_tests.proofs.bits.set_each.Given as goal

abbrev pub invariant-loop-v : goal.invariant-loop-v
invariant-loop-v l = length l.plane ≡ l.len
