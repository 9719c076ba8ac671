use Rattle.std.proofs.Common.{◌≡◌, ℕ, ◌+◌, ◌*◌, ◌<◌, ◌≤◌, get_or, false, length}
use Rattle.paris_plane.specs.Bits.{word_bit}
use Rattle.paris_field.specs.Numbers.{plane_at}
use Rattle.paris_field.proofs.pairs.paired_rows.Given as goal

abbrev pub invariant-loop-k : goal.invariant-loop-k
invariant-loop-k g l = record {
  long : length l.rows ≡ 64;
  low : (j : ℕ) → j < l.k → (i : ℕ) → i < 64 → 64 * l.block + i < l.vps → word_bit (get_or l.rows j 0) i ≡ get_or (plane_at l.xs j) (64 * l.block + i) false;
  high : (j : ℕ) → j < l.k → (i : ℕ) → i < 64 → 64 * l.block + i < l.vps → word_bit (get_or l.rows (g.row.HIGH + j) 0) i ≡ get_or (plane_at l.ys j) (64 * l.block + i) false;
  low_rest : (j : ℕ) → l.k ≤ j → j < g.row.HIGH → get_or l.rows j 0 ≡ 0;
  high_rest : (j : ℕ) → l.k ≤ j → j < g.row.HIGH → get_or l.rows (g.row.HIGH + j) 0 ≡ 0;
}
