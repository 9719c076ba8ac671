use Rattle.std.proofs.Common.{◌∙◌, ℕ, List, Bool, ap, length, refl, subst, sym}
use Rattle.paris_field.specs.Numbers.{AllOf, value_of_planes}
use Rattle.paris_field.specs.Fields.{operand}
use Rattle.paris_field.proofs.Places.{held}
use Rattle.paris_alu.proofs.Combined.{all_inverted, inverted_field}
use Rattle.paris_alu.proofs.bitwise.invert.Goals as goal

pub from_layers-requires-clause-long : goal.from_layers-requires-clause-long
from_layers-requires-clause-long c =
    subst (λ (m : ℕ). AllOf m c.in_ok-planes.planes.items) (sym c.len.ensures)
    (subst (λ (ps : List (List Bool)). AllOf (length c.args.x.now.numbers) ps) (sym c.in_ok-planes.ensures) (all_inverted (length c.args.x.now.numbers) c.low.result.now c.low.ensures.long))

pub returns : goal.returns
returns c =
    let n : ℕ = length c.args.x.now.numbers in
    let xs : List (List Bool) = c.low.result.now in
    c.from_layers.ensures ∙ ap (λ (m : ℕ). value_of_planes m c.in_ok-planes.planes.items) c.len.ensures ∙ ap (value_of_planes n) c.in_ok-planes.ensures
    ∙ inverted_field n c.args.bits (operand c.args.bits c.args.x.now) xs (held n n c.args.bits (operand c.args.bits c.args.x.now) xs refl c.low.ensures.count c.low.ensures.long c.low.ensures.at)
