-- The reaches so far are moved, and the others stay.
use Rattle.std.proofs.Common.{◌≡◌, ◌≤◌, ◌+◌, ◌++◌, map, take, drop}
use Rattle.paris_depends.specs.Reaches.{moved_past}
use Rattle.paris_depends.proofs.reaches.move_past.Given as goal

abbrev pub invariant-loop-i : goal.invariant-loop-i
invariant-loop-i g l = record {
  reaches : l.reaches.items ≡ map (moved_past l.index.rows l.place) (take l.i l.fn.reaches.items) ++ drop l.i l.fn.reaches.items;
  looks : l.looks ≤ l.fn.looks + l.i;
  more : l.fn.looks ≤ l.looks;
}
