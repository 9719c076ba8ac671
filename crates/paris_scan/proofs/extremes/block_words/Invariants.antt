use Rattle.std.proofs.Common.{◌≡◌, ◌≢◌, ℕ, ◌+◌, ◌*◌, ◌/◌, get_or, length}
use Rattle.paris_field.specs.Numbers.{has}
use Rattle.paris_scan.specs.Running.{GoOn, HeldBefore, first_place, taken, walked}
use Rattle.paris_scan.proofs.OneByOne.{Passed}
use Rattle.paris_scan.proofs.extremes.block_words.Given as goal

abbrev pub invariant-loop-place : goal.invariant-loop-place
invariant-loop-place g l = record {
  long : length l.words ≡ length l.fn.words;
  others : (v : ℕ) → v / 64 ≢ l.block → get_or l.words v 0 ≡ get_or l.fn.words v 0;
  made : (L : ℕ) (values : ℕ → ℕ) → GoOn (λ x. l.fn.before ≡ x) (taken g.E.Extreme.operator L (has l.selected) l.fn.words) l.none l.block l.steps.direction (length l.fn.words) (has l.steps.begins) values
      → Passed l.count (walked l.steps.direction l.count) l.place (λ i. values (64 * l.block + i)) (λ i. get_or l.fn.words (64 * l.block + i) 0) (λ i. get_or l.words (64 * l.block + i) 0);
  held : (L : ℕ) (values : ℕ → ℕ) → GoOn (λ x. l.fn.before ≡ x) (taken g.E.Extreme.operator L (has l.selected) l.fn.words) l.none l.block l.steps.direction (length l.fn.words) (has l.steps.begins) values
      → HeldBefore (λ x. l.last ≡ x) l.steps.direction (length l.fn.words) values (first_place l.steps.direction (length l.fn.words) l.block + l.place);
}
