-- The keys of the first plan, and those of the other so far.
use Rattle.std.proofs.Common.{◌≡◌, ◌+◌, ◌≤◌, length, take}
use Rattle.std.specs.Prelude.{◌||◌}
use Rattle.paris_names.specs.declared.keys.Key.{Key}
use Rattle.paris_names.specs.Keys.{has_key}
use Rattle.paris_model.specs.Instructions.{writes}
use Rattle.paris_book.proofs.marks.written_by_either.Given as goal

abbrev pub invariant-loop-key : goal.invariant-loop-key
invariant-loop-key l = record {
  keys : (k : Key) → has_key l.keys.items k ≡ (has_key (writes l.old) k || has_key (take l.key-index l.key-items) k);
  few : length l.keys.items ≤ length (writes l.old) + l.key-index;
}
