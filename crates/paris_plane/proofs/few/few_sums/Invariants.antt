use Rattle.std.proofs.Common.{◌≡◌, ℕ, ◌<◌, ◌≤◌, length, get_or}
use Rattle.paris_plane.specs.Bits.{sum_word, carry_word}
use Rattle.paris_plane.proofs.few.few_sums.Given as goal

abbrev pub invariant-loop-i : goal.invariant-loop-i
invariant-loop-i l = record {
  long : length l.sum ≡ 2;
  sums : (j : ℕ) → j < l.i → get_or l.sum j 0 ≡ sum_word (get_or l.xs j 0) (get_or l.ys j 0) (get_or l.fn.carry j 0);
  carries : (j : ℕ) → j < l.i → get_or l.carry j 0 ≡ carry_word (get_or l.xs j 0) (get_or l.ys j 0) (get_or l.fn.carry j 0);
  left : (j : ℕ) → l.i ≤ j → get_or l.carry j 0 ≡ get_or l.fn.carry j 0;
}
