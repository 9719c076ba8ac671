use Rattle.std.proofs.Common.{◌≡◌, replicate, false}
use Rattle.paris_field.proofs.planes.zero_layers.Given as goal

abbrev pub invariant-loop : goal.invariant-loop
invariant-loop l = l.layers.items ≡ replicate l.counter (replicate l.vps false)
