use Rattle.std.proofs.Common.{◌≡◌, ◌++◌, take}
use Rattle.paris_field.proofs.planes.merged_layers.Given as goal

abbrev pub invariant-loop-layer : goal.invariant-loop-layer
invariant-loop-layer l = l.layers.items ≡ l.initial.layers.items ++ take l.layer-index l.high
