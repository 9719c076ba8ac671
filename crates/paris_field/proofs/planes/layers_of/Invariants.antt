use Rattle.std.proofs.Common.{◌≡◌}
use Rattle.paris_field.proofs.planes.layers_of.Given as goal

abbrev pub invariant-loop-plane : goal.invariant-loop-plane
invariant-loop-plane l = l.layers.items ≡ l.yielded
