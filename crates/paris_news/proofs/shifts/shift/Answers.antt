use Rattle.std.proofs.Common.{◌∙◌, ap, sym, subst, ℕ, ◌<◌, List, Bool}
use Rattle.paris_geometry.specs.Geometry.{neighbour, processor_count}
use Rattle.paris_field.specs.Fields.{operand}
use Rattle.paris_field.specs.Numbers.{value_of_planes}
use Rattle.paris_field.proofs.Places.{field_is}
use Rattle.paris_news.proofs.Steps.{neighbour_below}
use Rattle.paris_news.proofs.shifts.shift.Goals as goal

pub returns : goal.returns
returns c =
    let axes = c.args.geometry in
    let a : ℕ = c.args.axis in
    let n : ℕ = processor_count axes in
    let planes : List (List Bool) = c.in_ok-planes.planes.items in
    c.from_layers.ensures ∙ ap (λ (m : ℕ). value_of_planes m planes) c.vps.ensures.value
    ∙ field_is n c.args.bits planes (λ v. operand c.args.bits c.args.x.now (neighbour axes a c.args.direction v)) (c.in_ok-planes.ensures.count ∙ c.low.ensures.count) (λ v h.
    let there : neighbour axes a c.args.direction v < n = neighbour_below axes a c.args.direction v c.vps.ensures.sound c.requires.axis h in
    c.in_ok-planes.ensures.at v h ∙ c.low.ensures.at (neighbour axes a c.args.direction v) (subst (λ m. neighbour axes a c.args.direction v < m) (sym c.requires.count) there))
