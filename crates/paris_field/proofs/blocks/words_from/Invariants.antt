use Rattle.std.proofs.Common.{◌≡◌, ℕ, ◌/◌, ◌%◌, ◌^◌, ◌<◌, get_or, length}
use Rattle.paris_field.proofs.blocks.words_from.Given as goal

abbrev pub invariant-loop-i : goal.invariant-loop-i
invariant-loop-i l = record {
  long : length l.words ≡ 64;
  done : (j : ℕ) → j < l.i → get_or l.words j 0 ≡ get_or l.numbers j 0 / 2 ^ l.from % 2 ^ 64;
}
