use Rattle.std.proofs.Common.{◌≡◌, ◌-◌, ◌++◌, length, replicate}
use Rattle.paris_alu.proofs.planes.extended_planes.Given as goal

abbrev pub invariant-loop : goal.invariant-loop
invariant-loop l = l.planes.items ≡ l.x ++ replicate (l.counter - length l.x) l.rest
