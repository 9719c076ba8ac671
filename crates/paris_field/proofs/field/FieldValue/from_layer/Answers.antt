use Rattle.std.proofs.Common.{◌≡◌, ◌∙◌, ap, [], ◌∷◌, ◌++◌}
use Rattle.paris_field.specs.Numbers.{value_of_planes}
use Rattle.paris_field.proofs.Values.{one_plane_is}
use Rattle.paris_field.proofs.field.FieldValue.from_layer.Goals as goal

pub returns : goal.returns
returns c =
    let items : c.push.new.self.items ≡ c.args.layer ∷ [] = c.in_ok-push.ensures.items ∙ ap (λ l. l ++ c.args.layer ∷ []) c.in_ok-planes.ensures.items in
    ap (value_of_planes c.len-vps.result) items ∙ ap (λ n. value_of_planes n (c.args.layer ∷ [])) c.len-vps.ensures ∙ one_plane_is c.args.layer
