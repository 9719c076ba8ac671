-- The keys that are wanted before the place, and the places of the rows behind it that have a turn.
use Rattle.std.proofs.Common.{◌≡◌, ◌≤◌, ◌∷◌, [], map, take, drop}
use Rattle.paris_names.specs.declared.keys.Key.{Key}
use Rattle.paris_names.specs.Keys.{has_key}
use Rattle.paris_depends.specs.Sweeps.{marked}
use Rattle.paris_book.specs.Entries.{machine_row}
use Rattle.paris_book.specs.Wanted.{wanted_before, wanted_from}
use Rattle.paris_book.proofs.wanted.places_for.Given as goal

abbrev pub invariant-loop-at : goal.invariant-loop-at
invariant-loop-at l = record {
  within : l.at ≤ l.place;
  marks : (k : Key) → marked l.wanted k ≡ wanted_before (has_key (l.fn.key ∷ [])) (drop l.at (take l.place (map machine_row l.rows.rows))) k;
  places : l.places.items ≡ wanted_from (has_key (l.fn.key ∷ [])) l.at (drop l.at (take l.place (map machine_row l.rows.rows)));
}

abbrev pub decreases-loop-at : goal.decreases-loop-at
decreases-loop-at l = l.at
