use Rattle.std.proofs.Common.{◌≡◌, ℕ, ◌/◌, ◌%◌, ◌^◌, ◌<◌, ◌≤◌, get_or, length}
use Rattle.paris_field.proofs.quads.halve.Given as goal

abbrev pub invariant-loop-i : goal.invariant-loop-i
invariant-loop-i l = record {
  low_long : length l.low ≡ 256;
  high_long : length l.high ≡ 256;
  lows : (j : ℕ) → j < l.i → get_or l.low j 0 ≡ get_or l.fn.low j 0 % 2 ^ 32;
  rest : (j : ℕ) → l.i ≤ j → get_or l.low j 0 ≡ get_or l.fn.low j 0;
  highs : (j : ℕ) → j < l.i → get_or l.high j 0 ≡ get_or l.fn.low j 0 / 2 ^ 32;
}
