use Rattle.std.proofs.Common.{◌≡◌, ℕ, ◌+◌, ◌*◌, ◌<◌, ◌≤◌, get_or, false, length}
use Rattle.paris_plane.specs.Bits.{word_bit}
use Rattle.paris_field.specs.Numbers.{plane_at}
use Rattle.paris_field.proofs.blocks.rows_of.Given as goal

abbrev pub invariant-loop-k : goal.invariant-loop-k
invariant-loop-k l = record {
  long : length l.rows ≡ 64;
  bits : (j : ℕ) → j < l.k → (i : ℕ) → i < 64 → 64 * l.block + i < l.vps → word_bit (get_or l.rows j 0) i ≡ get_or (plane_at l.layers j) (64 * l.block + i) false;
  rest : (j : ℕ) → l.k ≤ j → j < 64 → get_or l.rows j 0 ≡ 0;
}
