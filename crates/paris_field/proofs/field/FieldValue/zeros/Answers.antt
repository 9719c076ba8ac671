use Rattle.std.proofs.Common.{◌∙◌, sym, ap, arith, replicate, length, false, refl}
use Rattle.std.proofs.lemmas.Simd.{get_or-replicate, length-replicate}
use Rattle.paris_field.specs.Numbers.{number_at}
use Rattle.paris_field.proofs.Numbers.{zero_number}
use Rattle.paris_field.proofs.Values.{value_is, all_of, all_replicated}
use Rattle.paris_field.proofs.field.FieldValue.zeros.Goals as goal

pub returns : goal.returns
returns c =
    value_is c.args.vps c.args.width c.in_ok-planes.planes.items (replicate c.args.vps 0)
    (ap length c.in_ok-planes.ensures ∙ length-replicate c.args.width (replicate c.args.vps false)) (length-replicate c.args.vps 0) (λ v h.
    ap (λ ps. number_at ps v) c.in_ok-planes.ensures ∙ zero_number c.args.width c.args.vps v ∙ sym (get_or-replicate c.args.vps v 0 0 h))

pub invariant_of-result : goal.invariant_of-result
invariant_of-result c = (
  omega (arith, c.requires.narrow, ap length c.in_ok-planes.ensures, length-replicate c.args.width (replicate c.args.vps false)),
  all_of c.args.vps c.args.vps _ c.in_ok-planes.planes.items c.in_ok-planes.ensures refl (all_replicated c.args.vps c.args.width),
)
