-- The place in the list lies between the ends; the entries at the ends are known; each look halved what is left.
use Rattle.std.proofs.Common.{◌≡◌, ◌≤◌, ◌-◌, length, slice_get}
use Rattle.std.specs.Option.{option_map}
use Rattle.paris_names.specs.declared.ids.RowId.{RowId}
use Rattle.paris_depends.specs.Places.{count_to}
use Rattle.paris_depends.specs.Sides.{test_of, entries, entry_before}
use Rattle.paris_depends.proofs.Halving.{IsHalved}
use Rattle.paris_depends.proofs.nearby.look_around.Given as goal

abbrev pub invariant-loop-low : goal.invariant-loop-low
invariant-loop-low g l = record {
  below : l.low ≤ count_to (test_of l.side l.key) l.index.rows l.place;
  above : count_to (test_of l.side l.key) l.index.rows l.place ≤ l.high;
  within : l.high ≤ length (entries l.side l.index.rows l.key);
  last : option_map (λ (id : RowId). id.0) l.last ≡ entry_before (entries l.side l.index.rows l.key) l.low;
  first : option_map (λ (id : RowId). id.0) l.first ≡ slice_get (entries l.side l.index.rows l.key) l.high;
  halved : IsHalved (length (entries l.side l.index.rows l.key)) l.fn.looks l.looks (l.high - l.low);
}

abbrev pub decreases-loop-low : goal.decreases-loop-low
decreases-loop-low g l = l.high - l.low
