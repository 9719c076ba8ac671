use Rattle.std.proofs.Common.{◌≡◌, ℕ, ◌+◌, ◌*◌, ◌/◌, ◌%◌, ◌^◌, ◌<◌, get_or, length}
use Rattle.paris_field.proofs.pairs.spread.Given as goal

abbrev pub invariant-loop-i : goal.invariant-loop-i
invariant-loop-i l = record {
  long : length l.words ≡ 64;
  done : (j : ℕ) → j < l.i → get_or l.words j 0 ≡ get_or l.numbers j 0 / 2 ^ 8 % 2 ^ 32 * 2 ^ 32 + get_or l.numbers j 0 % 2 ^ 8;
}
