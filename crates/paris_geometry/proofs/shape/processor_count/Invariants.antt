use Rattle.std.proofs.Common.{◌≡◌, ◌≤◌, ◌^◌, take}
use Rattle.paris_geometry.specs.Geometry.{product}
use Rattle.paris_geometry.proofs.shape.processor_count.Given as goal

abbrev pub invariant-loop-length : goal.invariant-loop-length
invariant-loop-length l = (l.count ≡ product (take l.length-index l.lengths)) × (l.count ≤ (2 ^ 17) ^ l.length-index)
