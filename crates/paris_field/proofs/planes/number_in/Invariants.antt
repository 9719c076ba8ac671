use Rattle.std.proofs.Common.{◌≡◌, drop}
use Rattle.paris_field.specs.Numbers.{number_at}
use Rattle.paris_field.proofs.planes.number_in.Given as goal

abbrev pub invariant-loop-k : goal.invariant-loop-k
invariant-loop-k l = l.number ≡ number_at (drop l.k l.layers) l.v
