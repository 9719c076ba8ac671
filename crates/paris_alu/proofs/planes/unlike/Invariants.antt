use Rattle.std.proofs.Common.{◌≡◌, eqb, not, take}
use Rattle.paris_field.specs.Numbers.{number_at, bits_everywhere}
use Rattle.paris_alu.proofs.planes.unlike.Given as goal

abbrev pub invariant-loop-k : goal.invariant-loop-k
invariant-loop-k l = l.unlike ≡ bits_everywhere l.vps (λ v. not (eqb (number_at (take l.k l.x) v) (number_at (take l.k l.y) v)))
