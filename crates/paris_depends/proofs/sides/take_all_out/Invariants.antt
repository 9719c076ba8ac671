-- The lists of the keys so far lack the id.
use Rattle.std.proofs.Common.{◌≡◌, ℕ, ◌≤◌, cond, take}
use Rattle.std.specs.Prelude.{remove}
use Rattle.paris_names.specs.declared.keys.Key.{Key}
use Rattle.paris_names.specs.Keys.{has_key, key_slot}
use Rattle.paris_depends.specs.Lists.{list_at, room_at}
use Rattle.paris_depends.specs.Places.{count_to}
use Rattle.paris_depends.specs.Sides.{entries, test_of}
use Rattle.paris_depends.proofs.sides.take_all_out.Given as goal

abbrev pub invariant-loop-key : goal.invariant-loop-key
invariant-loop-key g l = record {
  lists : (k : Key) → list_at l.lists (key_slot k) ≡ cond (has_key (take l.key-index l.key-items) k) (remove (entries l.fn.side l.rows.rows k) (count_to (test_of l.fn.side k) l.rows.rows l.place)) (entries l.fn.side l.rows.rows k);
  more : (s : ℕ) → room_at l.fn.lists s ≤ room_at l.lists s;
}
