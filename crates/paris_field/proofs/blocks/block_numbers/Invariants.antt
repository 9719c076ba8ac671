use Rattle.std.proofs.Common.{◌≡◌, ℕ, ◌+◌, ◌*◌, ◌<◌, get_or, length}
use Rattle.paris_field.specs.Numbers.{number_at}
use Rattle.paris_field.proofs.blocks.block_numbers.Given as goal

abbrev pub invariant-loop-i : goal.invariant-loop-i
invariant-loop-i l = record {
  long : length l.numbers ≡ 64;
  done : (j : ℕ) → j < l.i → 64 * l.block + j < l.vps → get_or l.numbers j 0 ≡ number_at l.layers (64 * l.block + j);
}
