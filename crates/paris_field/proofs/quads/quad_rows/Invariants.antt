use Rattle.std.proofs.Common.{◌≡◌, ℕ, ◌+◌, ◌*◌, ◌<◌, ◌≤◌, [], false, get_or, length, replicate}
use Rattle.paris_field.specs.Numbers.{plane_at}
use Rattle.paris_field.specs.Square.{FourLanes, lane_bit}
use Rattle.paris_field.proofs.quads.quad_rows.Given as goal

abbrev pub invariant-loop-k : goal.invariant-loop-k
invariant-loop-k l = record {
  long : length l.rows ≡ 64;
  four : FourLanes 64 l.rows;
  bits : (k : ℕ) → k < l.k → (q i : ℕ) → q < 4 → i < 64 → lane_bit l.rows q k i ≡ get_or (plane_at l.layers k) (256 * l.quad + 64 * q + i) false;
  rest : (k : ℕ) → l.k ≤ k → k < 64 → get_or l.rows k [] ≡ replicate 4 0;
}
