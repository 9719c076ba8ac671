use Rattle.std.proofs.Common.{◌≡◌, length}
use Rattle.paris_field.specs.Fields.{AllFit}
use Rattle.paris_plane_tests.proofs.worked_rows.repeated.Given as goal

abbrev pub invariant-loop-v : goal.invariant-loop-v
invariant-loop-v l = record {
  count : length l.numbers.items ≡ l.v;
  fit : AllFit 64 l.numbers.items;
}
