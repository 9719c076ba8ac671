use Rattle.std.proofs.Common.{◌≡◌, ℕ, ◌/◌, ◌<◌, ◌≤◌, get_or, length}
use Rattle.paris_field.specs.Numbers.{has}
use Rattle.paris_scan.specs.Running.{AreRunning, HeldBefore, first_place, taken, walked}
use Rattle.paris_scan.proofs.extremes.near_words.Given as goal

abbrev pub invariant-loop-place : goal.invariant-loop-place
invariant-loop-place g l = record {
  count : length l.words ≡ length l.fn.words;
  rest : (v : ℕ) → v < length l.fn.words → l.place ≤ walked l.steps.direction l.blocks (v / 64) → get_or l.words v 0 ≡ get_or l.fn.words v 0;
  made : (L : ℕ) (values : ℕ → ℕ) → AreRunning (taken g.E.Extreme.operator L (has l.selected) l.fn.words) l.none l.steps.direction l.steps.by (length l.fn.words) (has l.steps.begins) values
      → (v : ℕ) → v < length l.fn.words → walked l.steps.direction l.blocks (v / 64) < l.place → get_or l.words v 0 ≡ values v;
  held : (L : ℕ) (values : ℕ → ℕ) → AreRunning (taken g.E.Extreme.operator L (has l.selected) l.fn.words) l.none l.steps.direction l.steps.by (length l.fn.words) (has l.steps.begins) values
      → l.place < l.blocks → HeldBefore (λ x. l.last ≡ x) l.steps.direction (length l.fn.words) values (first_place l.steps.direction (length l.fn.words) (walked l.steps.direction l.blocks l.place));
}
