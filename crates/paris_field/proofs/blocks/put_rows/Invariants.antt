use Rattle.std.proofs.Common.{◌≡◌, ◌≢◌, ℕ, ◌+◌, ◌*◌, ◌/◌, ◌<◌, get_or, length, false}
use Rattle.paris_plane.specs.Bits.{word_bit}
use Rattle.paris_field.specs.Numbers.{AllOf, plane_at}
use Rattle.paris_field.proofs.blocks.put_rows.Given as goal

abbrev pub invariant-loop-k : goal.invariant-loop-k
invariant-loop-k l = record {
  long : AllOf l.vps l.planes;
  bits : (j : ℕ) → j < l.k → (i : ℕ) → i < 64 → 64 * l.block + i < l.vps → get_or (plane_at l.planes (l.from + j)) (64 * l.block + i) false ≡ word_bit (get_or l.rows j 0) i;
  low : (j : ℕ) → j < l.from → plane_at l.planes j ≡ plane_at l.fn.planes j;
  others : (j : ℕ) → j < length l.fn.planes → (v : ℕ) → v < l.vps → v / 64 ≢ l.block → get_or (plane_at l.planes j) v false ≡ get_or (plane_at l.fn.planes j) v false;
}
