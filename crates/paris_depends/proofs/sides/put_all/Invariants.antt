-- The lists of the keys so far have the id, and there is room for the keys left.
use Rattle.std.proofs.Common.{◌≡◌, ◌<◌, true, cond, take, drop}
use Rattle.std.specs.Prelude.{remove}
use Rattle.paris_names.specs.declared.keys.Key.{Key}
use Rattle.paris_names.specs.Keys.{has_key, key_slot}
use Rattle.paris_depends.specs.Lists.{list_at, room_at}
use Rattle.paris_depends.specs.Sides.{entries}
use Rattle.paris_depends.proofs.sides.put_all.Given as goal

abbrev pub invariant-loop-key : goal.invariant-loop-key
invariant-loop-key g l = record {
  lists : (k : Key) → list_at l.lists (key_slot k) ≡ cond (has_key (take l.key-index l.key-items) k) (entries l.fn.side l.rows.rows k) (entries l.fn.side (remove l.rows.rows l.place) k);
  room : (k : Key) → has_key (drop l.key-index l.key-items) k ≡ true → 0 < room_at l.lists (key_slot k);
}
