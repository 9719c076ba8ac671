use Rattle.std.proofs.Common.{◌≡◌, ◌*◌}
use Rattle.paris_field.specs.Numbers.{numbers}
use Rattle.paris_field.proofs.blocks.push_quads.Given as goal

abbrev pub invariant-loop-quad : goal.invariant-loop-quad
invariant-loop-quad l = l.list.items ≡ numbers (256 * l.quad) l.layers
