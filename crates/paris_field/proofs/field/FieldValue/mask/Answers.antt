use Rattle.std.proofs.Common.{◌≡◌, ◌<◌, ◌∙◌, ap, arith, [], length}
use Rattle.std.proofs.lemmas.List.{get_or_read}
use Rattle.paris_field.specs.Numbers.{plane_at}
use Rattle.paris_field.proofs.Values.{width_is, mask_is}
use Rattle.paris_field.proofs.field.FieldValue.mask.Goals as goal

pub returns : goal.returns
returns c =
    let one : length c.self.inside.planes.items ≡ 1 = width_is c.self.inside.vps c.self.inside.planes.items c.self.view_is ∙ c.requires in
    let below : 0 < length c.self.inside.planes.items = omega arith in
    let at : c.index.result.now ≡ plane_at c.self.inside.planes.items 0 = get_or_read c.self.inside.planes.items 0 c.index.result.now below c.index.ensures [] in
    mask_is c.self.inside.vps c.self.inside.planes.items c.index.result.now c.self.view_is one at (ap length at ∙ c.self.invariant.1 0 below)
