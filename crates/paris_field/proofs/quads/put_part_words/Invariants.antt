use Rattle.std.proofs.Common.{◌≡◌, ℕ, ◌+◌, ◌<◌, ◌≤◌, get_or, length}
use Rattle.paris_field.proofs.quads.put_part_words.Given as goal

abbrev pub invariant-loop-j : goal.invariant-loop-j
invariant-loop-j l = record {
  long : length l.words ≡ 256;
  put : (j : ℕ) → j < l.j → get_or l.words (l.at + j) 0 ≡ get_or l.part j 0;
  others : (i : ℕ) → (l.at ≤ i → l.at + l.j ≤ i) → get_or l.words i 0 ≡ get_or l.fn.words i 0;
}
