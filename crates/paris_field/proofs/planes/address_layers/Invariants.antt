-- The planes so far.
use Rattle.std.proofs.Common.{◌≡◌}
use Rattle.paris_field.proofs.Addresses.{address_list}
use Rattle.paris_field.proofs.planes.address_layers.Given as goal

abbrev pub invariant-loop-k : goal.invariant-loop-k
invariant-loop-k l = l.layers.items ≡ address_list l.from l.count l.vps l.k

abbrev pub invariant-loop : goal.invariant-loop
invariant-loop l = l.layers.items ≡ address_list l.from l.count l.vps l.counter
