use Rattle.std.proofs.Common.{◌∙◌, ℕ, Bool, List, ap, length, get_or, false, if◌then◌else◌}
use Rattle.paris_field.specs.Numbers.{number_at, value_of_planes}
use Rattle.paris_field.proofs.Places.{field_is}
use Rattle.paris_alu.proofs.comparisons.selected.Goals as goal

pub returns : goal.returns
returns c =
    let m : List Bool = c.args.mask.now in
    let ps : List (List Bool) = c.in_ok-planes.planes.items in
    c.from_layers.ensures
    ∙ ap (λ (n : ℕ). value_of_planes n ps) c.len.ensures
    ∙ field_is (length m) (length c.args.x.now) ps (λ v. if get_or m v false then number_at c.args.y.now v else number_at c.args.x.now v) c.in_ok-planes.ensures.count c.in_ok-planes.ensures.numbers
