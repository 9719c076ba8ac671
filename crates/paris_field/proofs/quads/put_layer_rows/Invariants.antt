use Rattle.std.proofs.Common.{◌≡◌, ℕ, ◌+◌, ◌*◌, ◌<◌, ◌≤◌, [], false, get_or, length}
use Rattle.paris_field.specs.Numbers.{plane_at}
use Rattle.paris_field.specs.Square.{FourLanes, lane_bit}
use Rattle.paris_field.proofs.quads.put_layer_rows.Given as goal

abbrev pub invariant-loop-k : goal.invariant-loop-k
invariant-loop-k l = record {
  long : length l.rows ≡ 64;
  four : FourLanes 64 l.rows;
  bits : (k : ℕ) → k < l.k → (q i : ℕ) → q < 4 → i < 64 → lane_bit l.rows q (l.from + k) i ≡ get_or (plane_at l.layers k) (256 * l.quad + 64 * q + i) false;
  others : (j : ℕ) → (l.from ≤ j → l.from + l.k ≤ j) → get_or l.rows j [] ≡ get_or l.fn.rows j [];
}
