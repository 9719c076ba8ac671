-- The address so far is that of the first coordinates.
use Rattle.std.proofs.Common.{◌≡◌, take}
use Rattle.paris_geometry.specs.Geometry.{address}
use Rattle.paris_geometry.proofs.shape.Geometry.address.Given as goal

abbrev pub invariant-loop-axis : goal.invariant-loop-axis
invariant-loop-axis l = l.address ≡ address (take l.axis l.self) (take l.axis l.coordinates)
