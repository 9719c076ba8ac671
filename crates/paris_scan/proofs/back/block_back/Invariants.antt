use Rattle.std.proofs.Common.{◌≡◌, ◌≢◌, ℕ, ◌+◌, ◌*◌, ◌/◌, get_or, length}
use Rattle.paris_field.specs.Numbers.{has}
use Rattle.paris_scan.specs.Running.{GoOn, HeldBefore, first_place, value_before, walked}
use Rattle.paris_scan.proofs.OneByOne.{Passed}
use Rattle.paris_scan.proofs.back.block_back.Given as goal

abbrev pub invariant-loop-place : goal.invariant-loop-place
invariant-loop-place l = record {
  long : length l.words ≡ length l.fn.words;
  others : (v : ℕ) → v / 64 ≢ l.block → get_or l.words v 0 ≡ get_or l.fn.words v 0;
  moved : (values : ℕ → ℕ) → GoOn (λ x. l.fn.before ≡ x) (λ v _. get_or l.fn.words v 0) l.none l.block l.steps.direction (length l.fn.words) (has l.steps.begins) values
      → Passed l.count (walked l.steps.direction l.count) l.place (λ i. value_before l.none l.steps.direction 1 (has l.steps.begins) values (64 * l.block + i)) (λ i. get_or l.fn.words (64 * l.block + i) 0) (λ i. get_or l.words (64 * l.block + i) 0);
  held : (values : ℕ → ℕ) → GoOn (λ x. l.fn.before ≡ x) (λ v _. get_or l.fn.words v 0) l.none l.block l.steps.direction (length l.fn.words) (has l.steps.begins) values
      → HeldBefore (λ x. l.last ≡ x) l.steps.direction (length l.fn.words) values (first_place l.steps.direction (length l.fn.words) l.block + l.place);
}
