-- What is listed so far comes before what the sweep lists from the first hit on; the looks fit the rows so far.
use Rattle.std.proofs.Common.{◌≡◌, ℕ, ◌<◌, ◌≤◌, ◌+◌, ◌-◌, ◌*◌, ◌^◌, ◌++◌, map, drop, length}
use Rattle.std.specs.List.{AllByRecursion}
use Rattle.paris_names.specs.Keys.{has_key}
use Rattle.paris_names.specs.declared.ids.RowId.{RowId}
use Rattle.paris_depends.specs.Reaches.{IsReach, first_hit, open_at, touched_rows}
use Rattle.paris_depends.proofs.walks.affected.Given as goal

abbrev pub invariant-loop-at : goal.invariant-loop-at
invariant-loop-at g l = record {
  first : l.at ≡ first_hit l.reaches.items;
  known : AllByRecursion (IsReach l.index.rows l.at) l.reaches.items;
  listed : map (λ (id : RowId). id.0) l.ids.items ++ touched_rows (open_at l.reaches.items l.at) (drop l.at l.index.rows) ≡ touched_rows (has_key l.keys) (drop l.place l.index.rows);
  few : length l.ids.items ≤ l.at;
  rows : length l.ids.items ≤ length l.program.rows;
  opened : length l.reaches.items ≤ length l.keys + 3 * length l.ids.items;
  looks : (b : ℕ) → length l.program.rows < 2 ^ b → l.looks ≤ l.fn.looks + (length l.keys + 3 * length l.ids.items) * (length l.ids.items + (2 * b + 1));
  more : l.fn.looks ≤ l.looks;
}

abbrev pub decreases-loop-at : goal.decreases-loop-at
decreases-loop-at g l = length l.program.rows - l.at
