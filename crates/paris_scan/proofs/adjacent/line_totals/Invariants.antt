-- The totals so far, and the selected processors behind them.
use Rattle.std.proofs.Common.{ℕ, ◌≡◌, ◌<◌, ◌≤◌, ◌*◌, ◌^◌, length}
use Rattle.std.specs.Prelude.{slice_index}
use Rattle.paris_field.specs.Numbers.{has, number_at}
use Rattle.paris_scan.specs.Adjacent.{values_of_line}
use Rattle.paris_scan.proofs.adjacent.line_totals.Given as goal

abbrev pub invariant-loop-line : goal.invariant-loop-line
invariant-loop-line g l = record {
  lines : length l.totals.items ≡ l.line;
  values : (i : ℕ) → i < length l.totals.items → slice_index l.totals.items i ≡ g.T.Combine.shows (length l.planes) (values_of_line l.count l.selected (number_at l.planes) i);
  fit : (i : ℕ) → i < length l.totals.items → slice_index l.totals.items i < 2 ^ length l.planes;
  long : length l.left ≡ length l.selected;
  behind : (v : ℕ) → l.line * l.count ≤ v → v < length l.selected → has l.left v ≡ has l.selected v;
}
