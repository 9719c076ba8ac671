use Rattle.std.proofs.Common.{◌≤◌, ◌∙◌, sym, ap, arith, length, take}
use Rattle.paris_model.specs.Store.{low}
use Rattle.paris_field.specs.Numbers.{number_at}
use Rattle.paris_field.proofs.Numbers.{number_at_low}
use Rattle.paris_field.proofs.Values.{all_fit, width_is, vps_is, at_is, all_of, all_taken}
use Rattle.paris_field.proofs.field.FieldValue.low.Goals as goal

pub returns-clause-long : goal.returns-clause-long
returns-clause-long c =
    let room : c.args.bits ≤ length c.self.inside.planes.items = omega (arith, width_is c.self.inside.vps c.self.inside.planes.items c.self.view_is, c.requires) in
    all_of c.self.inside.vps _ (take c.args.bits c.self.inside.planes.items) _ (ap (take c.args.bits) c.deref.ensures.value)
    (sym (vps_is c.self.inside.vps c.self.inside.planes.items c.self.view_is)) (all_taken c.self.inside.vps c.args.bits c.self.inside.planes.items room c.self.invariant.1)

pub returns-clause-at : goal.returns-clause-at
returns-clause-at c =
    let room : c.args.bits ≤ length c.self.inside.planes.items = omega (arith, width_is c.self.inside.vps c.self.inside.planes.items c.self.view_is, c.requires) in
    λ v h.
    ap (λ ps. number_at (take c.args.bits ps) v) c.deref.ensures.value ∙ number_at_low c.self.inside.planes.items c.args.bits v room
    ∙ ap (low c.args.bits) (at_is c.self.inside.vps c.self.inside.planes.items c.self.view_is v (omega (arith, h, vps_is c.self.inside.vps c.self.inside.planes.items c.self.view_is)))

pub returns-clause-fit : goal.returns-clause-fit
returns-clause-fit c = all_fit c.self.inside.vps c.self.inside.planes.items c.self.view_is
