use Rattle.std.proofs.Common.{◌≡◌, ℕ, length, get_or}
use Rattle.paris_field.specs.Numbers.{has}
use Rattle.paris_scan.specs.Running.{AreRunning, taken, walked}
use Rattle.paris_scan.proofs.OneByOne.{Walked}
use Rattle.paris_scan.proofs.extremes.far_words.Given as goal

abbrev pub invariant-loop-place : goal.invariant-loop-place
invariant-loop-place g l = record {
  count : length l.words ≡ length l.fn.words;
  made : (L : ℕ) (values : ℕ → ℕ) → AreRunning (taken g.E.Extreme.operator L (has l.selected) l.fn.words) l.none l.steps.direction l.steps.by (length l.fn.words) (has l.steps.begins) values
      → Walked (length l.fn.words) (walked l.steps.direction (length l.fn.words)) l.place values (λ v. get_or l.fn.words v 0) 0 l.words;
}
