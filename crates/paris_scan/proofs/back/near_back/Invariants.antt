use Rattle.std.proofs.Common.{◌≡◌, ℕ, ◌/◌, ◌<◌, ◌≤◌, get_or, length}
use Rattle.paris_field.specs.Numbers.{has}
use Rattle.paris_scan.specs.Running.{HeldBefore, first_place, value_before, walked}
use Rattle.paris_scan.proofs.back.near_back.Given as goal

abbrev pub invariant-loop-place : goal.invariant-loop-place
invariant-loop-place l = record {
  count : length l.words ≡ length l.fn.words;
  rest : (v : ℕ) → v < length l.fn.words → l.place ≤ walked l.steps.direction l.blocks (v / 64) → get_or l.words v 0 ≡ get_or l.fn.words v 0;
  moved : (v : ℕ) → v < length l.fn.words → walked l.steps.direction l.blocks (v / 64) < l.place → get_or l.words v 0 ≡ value_before l.none l.steps.direction 1 (has l.steps.begins) (λ u. get_or l.fn.words u 0) v;
  held : l.place < l.blocks → HeldBefore (λ x. l.last ≡ x) l.steps.direction (length l.fn.words) (λ u. get_or l.fn.words u 0) (first_place l.steps.direction (length l.fn.words) (walked l.steps.direction l.blocks l.place));
}
