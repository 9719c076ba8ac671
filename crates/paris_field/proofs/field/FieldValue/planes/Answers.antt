use Rattle.std.proofs.Common.{◌∙◌, sym, ap, arith, length}
use Rattle.paris_field.specs.Numbers.{value_of_planes, number_at}
use Rattle.paris_field.proofs.Values.{vps_is, at_is, all_of}
use Rattle.paris_field.proofs.field.FieldValue.planes.Goals as goal

pub returns-clause-long : goal.returns-clause-long
returns-clause-long c =
    all_of c.self.inside.vps _ c.self.inside.planes.items _ c.as_slice.ensures.value (sym (vps_is c.self.inside.vps c.self.inside.planes.items c.self.view_is)) c.self.invariant.1

pub returns-clause-value : goal.returns-clause-value
returns-clause-value c =
    ap (value_of_planes (length c.args.self.now.numbers)) c.as_slice.ensures.value
    ∙ ap (λ n. value_of_planes n c.self.inside.planes.items) (vps_is c.self.inside.vps c.self.inside.planes.items c.self.view_is) ∙ c.self.view_is

pub returns-clause-at : goal.returns-clause-at
returns-clause-at c =
    λ v h.
    ap (λ ps. number_at ps v) c.as_slice.ensures.value
    ∙ at_is c.self.inside.vps c.self.inside.planes.items c.self.view_is v (omega (arith, h, vps_is c.self.inside.vps c.self.inside.planes.items c.self.view_is))
