use Rattle.std.proofs.Common.{◌≡◌, ℕ, ◌∙◌, ap, length, List, Bool, refl, sym}
use Rattle.std.proofs.lemmas.Result.{IfOk-weaker}
use Rattle.paris_model.specs.declared.operators.BinaryOperator.TheVariants.{Minimum}
use Rattle.paris_model.specs.Elementwise.{is_less}
use Rattle.paris_field.specs.Fields.{FieldNumbers, operand}
use Rattle.paris_alu.specs.Alu.{binary_field}
use Rattle.paris_field.proofs.Places.{Holds, held, length-bits_everywhere}
use Rattle.paris_alu.proofs.Compares.{chosen_field, less_mask}
use Rattle.paris_alu.proofs.comparisons.minimum.Goals as goal

pub selected-requires-clause-x_planes : goal.selected-requires-clause-x_planes
selected-requires-clause-x_planes c = λ k h. c.low-xs.ensures.long k h ∙ sym (ap length c.in_ok-mask.ensures ∙ length-bits_everywhere c.len.result _ ∙ c.len.ensures)

pub selected-requires-clause-y_planes : goal.selected-requires-clause-y_planes
selected-requires-clause-y_planes c = λ k h. c.low-ys.ensures.long k h ∙ sym c.requires.same ∙ sym (ap length c.in_ok-mask.ensures ∙ length-bits_everywhere c.len.result _ ∙ c.len.ensures)

pub returns : goal.returns
returns c =
    let n : ℕ = length c.args.x.now.numbers in
    let L : ℕ = c.args.bits in
    let f : ℕ → ℕ = operand L c.args.x.now in
    let g : ℕ → ℕ = operand L c.args.y.now in
    let xs : List (List Bool) = c.low-xs.result.now in
    let ys : List (List Bool) = c.low-ys.result.now in
    let hx : Holds n L f xs = held n n L f xs refl c.low-xs.ensures.count c.low-xs.ensures.long c.low-xs.ensures.at in
    let hy : Holds n L g ys = held n (length c.args.y.now.numbers) L g ys (sym c.requires.same) c.low-ys.ensures.count c.low-ys.ensures.long c.low-ys.ensures.at in
    IfOk-weaker c.selected.result _ (λ (value : FieldNumbers). value ≡ binary_field (Minimum c.args.sign) L c.args.x.now c.args.y.now (λ _. 0))
    (λ value is. chosen_field (λ p q. is_less c.args.sign L q p) n L f g xs ys c.in_ok-mask.mask value hx hy (less_mask c.args.sign n c.len.result L g f ys xs c.in_ok-mask.mask c.len.ensures hy hx c.in_ok-mask.ensures) is) c.selected.ensures
