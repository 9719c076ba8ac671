use Rattle.std.proofs.Common.{◌≡◌, ℕ, ◌^◌, false, length, leb, get_or}
use Rattle.paris_model.specs.Store.{low}
use Rattle.paris_field.specs.Numbers.{has}
use Rattle.paris_scan.specs.Running.{AreRunning, added, own_word, walked}
use Rattle.paris_scan.proofs.OneByOne.{Walked}
use Rattle.paris_scan.proofs.running.far_sums.Given as goal

abbrev pub invariant-loop-place : goal.invariant-loop-place
invariant-loop-place l = record {
  count : length l.words ≡ length l.fn.words;
  long : length l.overflow ≡ length l.fn.words;
  low : (sums : ℕ → ℕ) → AreRunning (added (own_word (has l.selected) l.fn.words)) 0 l.steps.direction l.steps.by (length l.fn.words) (has l.steps.begins) sums
      → Walked (length l.fn.words) (walked l.steps.direction (length l.fn.words)) l.place (λ v. low l.bits (sums v)) (λ v. get_or l.fn.words v 0) 0 l.words;
  over : (sums : ℕ → ℕ) → AreRunning (added (own_word (has l.selected) l.fn.words)) 0 l.steps.direction l.steps.by (length l.fn.words) (has l.steps.begins) sums
      → Walked (length l.fn.words) (walked l.steps.direction (length l.fn.words)) l.place (λ v. leb (2 ^ l.bits) (sums v)) (λ _. false) false l.overflow;
}
