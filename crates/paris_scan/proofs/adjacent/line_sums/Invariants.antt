-- The sums so far.
use Rattle.std.proofs.Common.{ℕ, ◌≡◌, ◌<◌, length}
use Rattle.std.specs.Prelude.{slice_index, sum}
use Rattle.paris_field.specs.Numbers.{number_at}
use Rattle.paris_scan.specs.Adjacent.{values_of_line}
use Rattle.paris_scan.proofs.adjacent.line_sums.Given as goal

abbrev pub invariant-loop-line : goal.invariant-loop-line
invariant-loop-line l = record {
  lines : length l.sums.items ≡ l.line;
  values : (i : ℕ) → i < length l.sums.items → slice_index l.sums.items i ≡ sum (values_of_line l.count l.selected (number_at l.planes) i);
}
