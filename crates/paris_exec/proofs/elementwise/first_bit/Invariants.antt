-- The bits of the coordinates on the lower axes so far.
use Rattle.std.proofs.Common.{◌≡◌, ◌≤◌, ◌*◌, ◌^◌}
use Rattle.paris_geometry.specs.Geometry.{stride}
use Rattle.paris_exec.proofs.elementwise.first_bit.Given as goal

abbrev pub invariant-loop-lower : goal.invariant-loop-lower
invariant-loop-lower l = record {
  value : stride l.geometry l.lower ≡ 2 ^ l.from;
  small : l.from ≤ 16 * l.lower;
}
