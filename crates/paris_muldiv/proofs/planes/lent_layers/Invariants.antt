use Rattle.std.proofs.Common.{◌≡◌, take}
use Rattle.paris_muldiv.proofs.planes.lent_layers.Given as goal

abbrev pub invariant-loop-layer : goal.invariant-loop-layer
invariant-loop-layer l = l.lent.items ≡ take l.layer-index l.layers
