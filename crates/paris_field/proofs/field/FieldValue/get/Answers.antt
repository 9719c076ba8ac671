use Rattle.std.proofs.Common.{◌<◌, ◌^◌, ◌∙◌, sym, ap, arith, length, subst}
use Rattle.paris_field.specs.Numbers.{number_at}
use Rattle.paris_field.proofs.Lists.{below_of}
use Rattle.paris_field.proofs.Values.{width_is, vps_is, at_is}
use Rattle.paris_field.proofs.field.FieldValue.get.Goals as goal

pub number_in-requires-clause-within : goal.number_in-requires-clause-within
number_in-requires-clause-within c = omega (arith, vps_is c.self.inside.vps c.self.inside.planes.items c.self.view_is, c.requires)

pub returns-clause-value : goal.returns-clause-value
returns-clause-value c =
    c.number_in.ensures ∙ ap (λ ps. number_at ps c.args.v) c.deref.ensures.value
    ∙ at_is c.self.inside.vps c.self.inside.planes.items c.self.view_is c.args.v (omega (arith, vps_is c.self.inside.vps c.self.inside.planes.items c.self.view_is, c.requires))

pub returns-clause-fits : goal.returns-clause-fits
returns-clause-fits c =
    subst (λ x. x < 2 ^ c.args.self.now.width) (sym c.number_in.ensures)
    (below_of c.deref.result.now c.args.v c.args.self.now.width (ap length c.deref.ensures.value ∙ width_is c.self.inside.vps c.self.inside.planes.items c.self.view_is))
