use Rattle.std.proofs.Common.{◌≡◌, eqb, length, not, replicate, take}
use Rattle.paris_field.specs.Numbers.{number_at, bits_everywhere}
use Rattle.paris_alu.proofs.planes.unlike_rest.Given as goal

abbrev pub invariant-loop-plane : goal.invariant-loop-plane
invariant-loop-plane l = l.unlike ≡ bits_everywhere (length l.rest) (λ v. not (eqb (number_at (take l.plane-index l.x) v) (number_at (take l.plane-index (replicate (length l.x) l.rest)) v)))
