use Rattle.std.proofs.Common.{◌≡◌, map, not, take}
use Rattle.paris_alu.proofs.planes.inverted_planes.Given as goal

abbrev pub invariant-loop-plane : goal.invariant-loop-plane
invariant-loop-plane l = l.planes.items ≡ map (map not) (take l.plane-index l.x)
