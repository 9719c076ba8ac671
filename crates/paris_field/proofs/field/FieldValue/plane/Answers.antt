use Rattle.std.proofs.Common.{◌≡◌, ◌<◌, ◌/◌, ◌%◌, ◌^◌, ◌∙◌, sym, ap, arith, [], length}
use Rattle.std.proofs.lemmas.List.{get_or_read}
use Rattle.paris_field.specs.Numbers.{bit_in, plane_at}
use Rattle.paris_field.proofs.Numbers.{bit_of_number}
use Rattle.paris_field.proofs.Values.{width_is, vps_is, at_is}
use Rattle.paris_field.proofs.field.FieldValue.plane.Goals as goal

pub returns-clause-long : goal.returns-clause-long
returns-clause-long c =
    let below : c.args.k < length c.self.inside.planes.items = omega (arith, width_is c.self.inside.vps c.self.inside.planes.items c.self.view_is, c.requires) in
    let at : c.index.result.now ≡ plane_at c.self.inside.planes.items c.args.k = get_or_read c.self.inside.planes.items c.args.k c.index.result.now below c.index.ensures [] in
    ap length at ∙ c.self.invariant.1 c.args.k below ∙ sym (vps_is c.self.inside.vps c.self.inside.planes.items c.self.view_is)

pub returns-clause-at : goal.returns-clause-at
returns-clause-at c =
    let below : c.args.k < length c.self.inside.planes.items = omega (arith, width_is c.self.inside.vps c.self.inside.planes.items c.self.view_is, c.requires) in
    let at : c.index.result.now ≡ plane_at c.self.inside.planes.items c.args.k = get_or_read c.self.inside.planes.items c.args.k c.index.result.now below c.index.ensures [] in
    λ v h.
    ap (λ p. bit_in p v) at ∙ sym (bit_of_number c.self.inside.planes.items c.args.k v below)
    ∙ ap (λ x. x / 2 ^ c.args.k % 2) (at_is c.self.inside.vps c.self.inside.planes.items c.self.view_is v (omega (arith, h, vps_is c.self.inside.vps c.self.inside.planes.items c.self.view_is)))
