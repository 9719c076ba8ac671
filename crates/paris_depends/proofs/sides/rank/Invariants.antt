-- The rank lies between the ends.
use Rattle.std.proofs.Common.{◌≡◌, ◌<◌, ◌≤◌, ◌-◌, ℕ, List, length}
use Rattle.paris_names.specs.declared.keys.Key.{Key}
use Rattle.paris_program.specs.Program.{ids_of}
use Rattle.paris_depends.specs.Index.{Footprint}
use Rattle.paris_depends.specs.Lists.{list_at}
use Rattle.paris_depends.specs.Places.{count_to}
use Rattle.paris_depends.specs.Sides.{AreEntries, test_of}
use Rattle.paris_depends.specs.declared.sides.Side.{Side}
use Rattle.paris_depends.proofs.sides.rank.Given as goal

abbrev pub invariant-loop-low : goal.invariant-loop-low
invariant-loop-low g l = record {
  up : l.low ≤ l.high;
  within : l.high ≤ length (list_at l.lists l.slot);
  between : (rows : List (ℕ × Footprint)) (side : Side) (key : Key) → ids_of l.program.rows ≡ ids_of rows → AreEntries side key rows l.place (list_at l.lists l.slot) → l.place < length rows → (l.low ≤ count_to (test_of side key) rows l.place) × (count_to (test_of side key) rows l.place ≤ l.high);
}

abbrev pub decreases-loop-low : goal.decreases-loop-low
decreases-loop-low g l = l.high - l.low
