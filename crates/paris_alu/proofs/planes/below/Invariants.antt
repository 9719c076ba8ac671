use Rattle.std.proofs.Common.{◌≡◌, ltb, take}
use Rattle.paris_field.specs.Numbers.{number_at, bits_everywhere}
use Rattle.paris_alu.proofs.planes.below.Given as goal

abbrev pub invariant-loop-k : goal.invariant-loop-k
invariant-loop-k l = l.below ≡ bits_everywhere l.vps (λ v. ltb (number_at (take l.k l.x) v) (number_at (take l.k l.y) v))
