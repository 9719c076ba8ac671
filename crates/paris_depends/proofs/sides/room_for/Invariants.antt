-- The lists stay, there is no less room, and there is room for each key so far.
use Rattle.std.proofs.Common.{◌≡◌, ℕ, ◌<◌, ◌≤◌, true, take}
use Rattle.paris_names.specs.declared.keys.Key.{Key}
use Rattle.paris_names.specs.Keys.{has_key, key_slot}
use Rattle.paris_depends.specs.Lists.{list_at, room_at}
use Rattle.paris_depends.proofs.sides.room_for.Given as goal

abbrev pub invariant-loop-key : goal.invariant-loop-key
invariant-loop-key l = record {
  ids : (s : ℕ) → list_at l.lists s ≡ list_at l.fn.lists s;
  more : (s : ℕ) → room_at l.fn.lists s ≤ room_at l.lists s;
  ready : (k : Key) → has_key (take l.key-index l.keys) k ≡ true → 0 < room_at l.lists (key_slot k);
}
