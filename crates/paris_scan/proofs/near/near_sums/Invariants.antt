use Rattle.std.proofs.Common.{◌≡◌, ℕ, ◌/◌, ◌^◌, ◌<◌, ◌≤◌, false, get_or, leb, length}
use Rattle.paris_model.specs.Store.{low}
use Rattle.paris_field.specs.Numbers.{has}
use Rattle.paris_scan.specs.Running.{AreRunning, HeldBefore, IsKept, added, first_place, own_word, walked}
use Rattle.paris_scan.proofs.near.near_sums.Given as goal

abbrev pub invariant-loop-place : goal.invariant-loop-place
invariant-loop-place l = record {
  count : length l.words ≡ length l.fn.words;
  long : length l.overflow ≡ length l.fn.words;
  rest : (v : ℕ) → v < length l.fn.words → l.place ≤ walked l.steps.direction l.blocks (v / 64) → get_or l.words v 0 ≡ get_or l.fn.words v 0;
  low : (sums : ℕ → ℕ) → AreRunning (added (own_word (has l.selected) l.fn.words)) 0 l.steps.direction l.steps.by (length l.fn.words) (has l.steps.begins) sums
      → (v : ℕ) → v < length l.fn.words → walked l.steps.direction l.blocks (v / 64) < l.place → get_or l.words v 0 ≡ low l.bits (sums v);
  over : (sums : ℕ → ℕ) → AreRunning (added (own_word (has l.selected) l.fn.words)) 0 l.steps.direction l.steps.by (length l.fn.words) (has l.steps.begins) sums
      → (v : ℕ) → v < length l.fn.words → walked l.steps.direction l.blocks (v / 64) < l.place → get_or l.overflow v false ≡ leb (2 ^ l.bits) (sums v);
  kept : (sums : ℕ → ℕ) → AreRunning (added (own_word (has l.selected) l.fn.words)) 0 l.steps.direction l.steps.by (length l.fn.words) (has l.steps.begins) sums
      → l.place < l.blocks → HeldBefore (IsKept l.bits l.sum.low l.sum.over) l.steps.direction (length l.fn.words) sums (first_place l.steps.direction (length l.fn.words) (walked l.steps.direction l.blocks l.place));
}
