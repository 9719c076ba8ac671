use Rattle.std.proofs.Common.{◌≡◌, ℕ, ◌<◌, get_or, length}
use Rattle.paris_field.proofs.words.first_words.Given as goal

abbrev pub invariant-loop-i : goal.invariant-loop-i
invariant-loop-i l = record {
  long : length l.rows ≡ 64;
  done : (j : ℕ) → j < l.i → get_or l.rows j 0 ≡ get_or l.words j 0;
}
