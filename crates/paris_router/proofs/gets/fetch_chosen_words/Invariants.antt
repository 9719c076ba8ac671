-- The words of the processors below i are there, and the first bad one isn't below i.
use Rattle.std.proofs.Common.{◌/◌, ◌%◌, ◌≡◌, ℕ, ◌-◌, ◌<◌, get_or, length}
use Rattle.std.specs.Prelude.{◌&&◌, find, if◌then◌else◌, nat_le}
use Rattle.std.specs.List.{range_with_len}
use Rattle.paris_geometry.specs.Geometry.{numbers_below}
use Rattle.paris_plane.specs.Bits.{word_bit}
use Rattle.paris_router.proofs.gets.fetch_chosen_words.Given as goal

abbrev pub invariant-loop-i : goal.invariant-loop-i
invariant-loop-i l = record {
  long : length l.fetched ≡ 256;
  least : find (λ i. word_bit (get_or l.chosen (i / 64) 0) (i % 64) && nat_le (length l.words) (get_or l.addresses i 0)) (numbers_below l.count) ≡ find (λ i. word_bit (get_or l.chosen (i / 64) 0) (i % 64) && nat_le (length l.words) (get_or l.addresses i 0)) (range_with_len l.i (l.count - l.i));
  done : (j : ℕ) → j < l.i → get_or l.fetched j 0 ≡ (if word_bit (get_or l.chosen (j / 64) 0) (j % 64) then get_or l.words (get_or l.addresses j 0) 0 else 0);
}
