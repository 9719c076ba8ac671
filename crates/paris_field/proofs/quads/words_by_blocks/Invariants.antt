use Rattle.std.proofs.Common.{◌≡◌, ℕ, ◌+◌, ◌*◌, ◌<◌, get_or}
use Rattle.paris_field.specs.Numbers.{number_at}
use Rattle.paris_field.proofs.quads.words_by_blocks.Given as goal

abbrev pub invariant-loop-q : goal.invariant-loop-q
invariant-loop-q l = record {
  done : (i : ℕ) → i < 64 * l.q → 256 * l.quad + i < l.vps → get_or l.words i 0 ≡ number_at l.layers (256 * l.quad + i);
}
