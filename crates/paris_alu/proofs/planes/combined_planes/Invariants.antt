use Rattle.std.proofs.Common.{◌≡◌, take}
use Rattle.std.specs.Simd.Lanes.{zip2}
use Rattle.paris_alu.proofs.planes.combined_planes.Given as goal

abbrev pub invariant-loop-k : goal.invariant-loop-k
invariant-loop-k g l = l.planes.items ≡ zip2 (zip2 g.O.WordOp.bit) (take l.k l.x) (take l.k l.y)
