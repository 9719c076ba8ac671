-- The keys that are wanted before the place, and the first ready row behind it that the value stands on.
use Rattle.std.proofs.Common.{◌≡◌, ◌≤◌, ◌∷◌, [], map, take, drop}
use Rattle.paris_names.specs.declared.keys.Key.{Key}
use Rattle.paris_names.specs.Keys.{has_key}
use Rattle.paris_depends.specs.Sweeps.{marked}
use Rattle.paris_book.specs.Entries.{machine_row}
use Rattle.paris_book.specs.Wanted.{wanted_before}
use Rattle.paris_book.proofs.OrdersFor.{first_from}
use Rattle.paris_book.proofs.orders_for.first_ready_for.Given as goal

abbrev pub invariant-loop-at : goal.invariant-loop-at
invariant-loop-at l = record {
  within : l.at ≤ l.place;
  marks : (k : Key) → marked l.wanted k ≡ wanted_before (has_key (l.fn.key ∷ [])) (drop l.at (take l.place (map machine_row l.rows.rows))) k;
  first : l.first ≡ first_from l.rows.rows l.place l.fn.key l.at;
}

abbrev pub decreases-loop-at : goal.decreases-loop-at
decreases-loop-at l = l.at
