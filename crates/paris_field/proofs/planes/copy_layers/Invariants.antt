use Rattle.std.proofs.Common.{◌≡◌, take}
use Rattle.paris_field.proofs.planes.copy_layers.Given as goal

abbrev pub invariant-loop-layer : goal.invariant-loop-layer
invariant-loop-layer l = l.copies.items ≡ take l.layer-index l.layers
