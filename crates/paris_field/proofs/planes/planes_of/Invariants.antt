use Rattle.std.proofs.Common.{◌≡◌, take}
use Rattle.paris_field.proofs.planes.planes_of.Given as goal

abbrev pub invariant-loop-layer : goal.invariant-loop-layer
invariant-loop-layer l = l.planes.items ≡ take l.layer-index l.layers
