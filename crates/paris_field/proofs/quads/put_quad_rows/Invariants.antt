use Rattle.std.proofs.Common.{◌≡◌, ◌≢◌, ℕ, ◌+◌, ◌*◌, ◌/◌, ◌<◌, get_or, length, false}
use Rattle.paris_field.specs.Numbers.{AllOf, plane_at}
use Rattle.paris_field.specs.Square.{lane_bit}
use Rattle.paris_field.proofs.quads.put_quad_rows.Given as goal

abbrev pub invariant-loop-k : goal.invariant-loop-k
invariant-loop-k l = record {
  long : AllOf l.vps l.planes;
  bits : (j : ℕ) → j < l.k → (q i : ℕ) → q < 4 → i < 64 → get_or (plane_at l.planes j) (256 * l.quad + 64 * q + i) false ≡ lane_bit l.rows q j i;
  others : (j : ℕ) → j < length l.fn.planes → (v : ℕ) → v < l.vps → v / 256 ≢ l.quad → get_or (plane_at l.planes j) v false ≡ get_or (plane_at l.fn.planes j) v false;
}
