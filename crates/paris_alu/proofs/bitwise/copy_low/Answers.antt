use Rattle.std.proofs.Common.{◌∙◌, ℕ, List, Bool, ap, length, refl}
use Rattle.paris_field.specs.Numbers.{value_of_planes}
use Rattle.paris_field.specs.Fields.{operand}
use Rattle.paris_field.proofs.Places.{held}
use Rattle.paris_alu.proofs.Combined.{copied_field}
use Rattle.paris_alu.proofs.bitwise.copy_low.Goals as goal

pub returns : goal.returns
returns c =
    let n : ℕ = length c.args.x.now.numbers in
    let xs : List (List Bool) = c.low.result.now in
    c.from_layers.ensures ∙ ap (λ (m : ℕ). value_of_planes m c.in_ok-planes.planes.items) c.len.ensures ∙ ap (value_of_planes n) c.in_ok-planes.ensures
    ∙ copied_field n c.args.bits (operand c.args.bits c.args.x.now) xs (held n n c.args.bits (operand c.args.bits c.args.x.now) xs refl c.low.ensures.count c.low.ensures.long c.low.ensures.at)
