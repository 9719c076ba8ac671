use Rattle.std.proofs.Common.{◌≡◌, ℕ, ◌<◌, ◌≤◌}
use Rattle.std.specs.Simd.Lanes.{zip2}
use Rattle.paris_field.specs.Numbers.{plane_at}
use Rattle.paris_scan.proofs.bitwise.put_planes.Given as goal

abbrev pub invariant-loop-k : goal.invariant-loop-k
invariant-loop-k g l = record {
  done : (j : ℕ) → j < l.k → plane_at l.planes j ≡ zip2 g.O.WordOp.bit (plane_at l.fn.planes j) (plane_at l.other j);
  left : (j : ℕ) → l.k ≤ j → plane_at l.planes j ≡ plane_at l.fn.planes j;
}
