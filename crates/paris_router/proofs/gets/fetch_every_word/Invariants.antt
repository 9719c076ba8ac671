-- The words of the processors below i are there, and the first bad one isn't below i.
use Rattle.std.proofs.Common.{◌≡◌, ℕ, ◌-◌, ◌<◌, get_or, length}
use Rattle.std.specs.Prelude.{find, nat_le}
use Rattle.std.specs.List.{range_with_len}
use Rattle.paris_geometry.specs.Geometry.{numbers_below}
use Rattle.paris_router.proofs.gets.fetch_every_word.Given as goal

abbrev pub invariant-loop-i : goal.invariant-loop-i
invariant-loop-i l = record {
  long : length l.fetched ≡ 256;
  least : find (λ i. nat_le (length l.words) (get_or l.addresses i 0)) (numbers_below 256) ≡ find (λ i. nat_le (length l.words) (get_or l.addresses i 0)) (range_with_len l.i (256 - l.i));
  done : (j : ℕ) → j < l.i → get_or l.fetched j 0 ≡ get_or l.words (get_or l.addresses j 0) 0;
}
