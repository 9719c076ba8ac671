-- The lists stay, and some that are empty were added.
use Rattle.std.proofs.Common.{◌≡◌, ℕ, ◌≤◌, ◌-◌, length, map, get_or, [], suc}
use Rattle.paris_depends.specs.ListsInside.{ids_held, room_in}
use Rattle.paris_depends.proofs.lists.widen.Given as goal

abbrev pub invariant-loop-alloc : goal.invariant-loop-alloc
invariant-loop-alloc l = record {
  ids : (s : ℕ) → get_or (map ids_held l.lists.items) s [] ≡ get_or (map ids_held l.fn.lists.items) s [];
  more : (s : ℕ) → get_or (map room_in l.fn.lists.items) s 0 ≤ get_or (map room_in l.lists.items) s 0;
  longer : length l.fn.lists.items ≤ length l.lists.items;
}

abbrev pub decreases-loop-alloc : goal.decreases-loop-alloc
decreases-loop-alloc l = suc l.slot - length l.lists.items
