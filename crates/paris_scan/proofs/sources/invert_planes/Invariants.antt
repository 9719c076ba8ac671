use Rattle.std.proofs.Common.{◌≡◌, ℕ, ◌<◌, ◌≤◌, map, not}
use Rattle.paris_field.specs.Numbers.{plane_at}
use Rattle.paris_scan.proofs.sources.invert_planes.Given as goal

abbrev pub invariant-loop-k : goal.invariant-loop-k
invariant-loop-k l = record {
  done : (j : ℕ) → j < l.k → plane_at l.planes j ≡ map not (plane_at l.fn.planes j);
  left : (j : ℕ) → l.k ≤ j → plane_at l.planes j ≡ plane_at l.fn.planes j;
}
