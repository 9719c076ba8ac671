use Rattle.std.proofs.Common.{◌≡◌, ℕ, ◌+◌, ◌*◌, ◌/◌, ◌%◌, ◌<◌, get_or, length}
use Rattle.paris_plane.specs.Bits.{word_bit}
use Rattle.paris_field.proofs.blocks.two_by_two.Given as goal

abbrev pub invariant-loop-j : goal.invariant-loop-j
invariant-loop-j l = record {
  long : length l.rows ≡ 64;
  done : (k : ℕ) → k < l.j → (i : ℕ) → i < 64 → word_bit (get_or l.rows k 0) i ≡ word_bit (get_or l.words (i / 32 * 32 + k) 0) (i % 32);
}
