use Rattle.std.proofs.Common.{◌≡◌, ℕ, ◌<◌, length}
use Rattle.std.specs.Simd.Lanes.{zip2}
use Rattle.paris_field.specs.Numbers.{plane_at}
use Rattle.paris_scan.proofs.sources.masked_planes.Given as goal

abbrev pub invariant-loop-k : goal.invariant-loop-k
invariant-loop-k g l = record {
  count : length l.planes.items ≡ l.k;
  at : (j : ℕ) → j < l.k → plane_at l.planes.items j ≡ zip2 g.O.WordOp.bit l.mask (plane_at l.x j);
}
