use Rattle.std.proofs.Common.{◌≡◌, ◌≢◌, ℕ, ◌+◌, ◌*◌, ◌/◌, ◌^◌, ◌<◌, ◌≤◌, false, get_or, leb, length}
use Rattle.paris_model.specs.Store.{low}
use Rattle.paris_plane.specs.Bits.{word_bit}
use Rattle.paris_field.specs.Numbers.{has}
use Rattle.paris_scan.specs.Running.{GoOn, HeldBefore, IsKept, added, first_place, own_word, walked}
use Rattle.paris_scan.proofs.OneByOne.{Passed}
use Rattle.paris_scan.proofs.near.block_sums.Given as goal

abbrev pub invariant-loop-place : goal.invariant-loop-place
invariant-loop-place l = record {
  long : length l.words ≡ length l.fn.words;
  others : (v : ℕ) → v / 64 ≢ l.block → get_or l.words v 0 ≡ get_or l.fn.words v 0;
  low : (sums : ℕ → ℕ) → GoOn (IsKept l.bits l.fn.before.low l.fn.before.over) (added (own_word (has l.selected) l.fn.words)) 0 l.block l.steps.direction (length l.fn.words) (has l.steps.begins) sums
      → Passed l.count (walked l.steps.direction l.count) l.place (λ i. low l.bits (sums (64 * l.block + i))) (λ i. get_or l.fn.words (64 * l.block + i) 0) (λ i. get_or l.words (64 * l.block + i) 0);
  clear : (p : ℕ) → l.place ≤ p → p < l.count → word_bit l.over (walked l.steps.direction l.count p) ≡ false;
  over : (sums : ℕ → ℕ) → GoOn (IsKept l.bits l.fn.before.low l.fn.before.over) (added (own_word (has l.selected) l.fn.words)) 0 l.block l.steps.direction (length l.fn.words) (has l.steps.begins) sums
      → (p : ℕ) → p < l.place → word_bit l.over (walked l.steps.direction l.count p) ≡ leb (2 ^ l.bits) (sums (64 * l.block + walked l.steps.direction l.count p));
  kept : (sums : ℕ → ℕ) → GoOn (IsKept l.bits l.fn.before.low l.fn.before.over) (added (own_word (has l.selected) l.fn.words)) 0 l.block l.steps.direction (length l.fn.words) (has l.steps.begins) sums
      → HeldBefore (IsKept l.bits l.sum.low l.sum.over) l.steps.direction (length l.fn.words) sums (first_place l.steps.direction (length l.fn.words) l.block + l.place);
}
