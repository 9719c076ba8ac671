use Rattle.std.proofs.Common.{◌≡◌, ℕ, ◌+◌, ◌*◌, ◌/◌, ◌%◌, ◌<◌, get_or, length}
use Rattle.paris_plane.specs.Bits.{word_bit}
use Rattle.paris_field.specs.Numbers.{has}
use Rattle.paris_router.proofs.quads.quad_chosen.Given as goal

abbrev pub invariant-loop-q : goal.invariant-loop-q
invariant-loop-q l = record {
  long : length l.words ≡ 4;
  done : (i : ℕ) → i < 64 * l.q → 256 * l.quad + i < length l.selected → word_bit (get_or l.words (i / 64) 0) (i % 64) ≡ has l.selected (256 * l.quad + i);
}
