use Rattle.std.proofs.Common.{◌≡◌, ℕ, ◌<◌, ◌∙◌, ap, arith, length, replicate, List, Bool, false}
use Rattle.std.proofs.lemmas.List.{length-replicate}
use Rattle.paris_model.specs.Elementwise.{binary_overflow, binary_result}
use Rattle.paris_model.specs.Store.{low}
use Rattle.paris_plane.proofs.Bits.{written}
use Rattle.paris_field.specs.Fields.{operand}
use Rattle.paris_field.specs.Numbers.{number_at, value_of_planes}
use Rattle.paris_field.proofs.Places.{field_is, plane_is}
use Rattle.paris_muldiv.proofs.blocks.computed.Goals as goal

pub returns-clause-value : goal.returns-clause-value
returns-clause-value g c =
    let n : ℕ = length c.args.x.now.numbers in
    let L : ℕ = c.args.bits in
    let ps : List (List Bool) = c.put_all_results.new.values in
    let xs : List (List Bool) = c.low.result.now in
    let ys : List (List Bool) = c.low-2.result.now in
    let result : ℕ → ℕ → ℕ → ℕ = λ w x y. low w (binary_result g.O.NumberOp.operator w x y 0 0) in
    let width : length c.deref_mut.result.now ≡ L = ap length (c.deref_mut.ensures.value ∙ c.in_ok-planes.ensures) ∙ length-replicate L (replicate c.len-vps.result false) in
    let vps : length c.in_ok-overflow.overflow ≡ n = ap length c.in_ok-overflow.ensures ∙ length-replicate c.len-vps.result false ∙ c.len-vps.ensures in
    c.in_ok-value.ensures
    ∙ ap (value_of_planes c.len-vps.result) (written _ ps _ (c.put_all_results.auto.values ∙ c.deref_mut.ensures.len))
    ∙ ap (λ m. value_of_planes m ps) c.len-vps.ensures
    ∙ field_is n L ps (λ v. result L (operand L c.args.x.now v) (operand L c.args.y.now v)) (c.put_all_results.auto.values ∙ width) (λ v h.
    let within : v < length c.in_ok-overflow.overflow = omega (arith, h, vps) in
    let there : v < length c.args.y.now.numbers = omega (arith, h, c.requires.same) in
    c.put_all_results.ensures.values v within
    ∙ ap (λ w. result w (number_at xs v) (number_at ys v)) width
    ∙ ap (λ x. result L x (number_at ys v)) (c.low.ensures.at v h)
    ∙ ap (result L (operand L c.args.x.now v)) (c.low-2.ensures.at v there))

pub returns-clause-overflow : goal.returns-clause-overflow
returns-clause-overflow g c =
    let n : ℕ = length c.args.x.now.numbers in
    let L : ℕ = c.args.bits in
    let xs : List (List Bool) = c.low.result.now in
    let ys : List (List Bool) = c.low-2.result.now in
    let overflows : ℕ → ℕ → ℕ → Bool = λ w x y. binary_overflow g.O.NumberOp.operator w x y 0 in
    let width : length c.deref_mut.result.now ≡ L = ap length (c.deref_mut.ensures.value ∙ c.in_ok-planes.ensures) ∙ length-replicate L (replicate c.len-vps.result false) in
    let vps : length c.in_ok-overflow.overflow ≡ n = ap length c.in_ok-overflow.ensures ∙ length-replicate c.len-vps.result false ∙ c.len-vps.ensures in
    c.from_plane.ensures
    ∙ plane_is c.put_all_results.new.overflow n (λ v. overflows L (operand L c.args.x.now v) (operand L c.args.y.now v)) (c.put_all_results.ensures.long ∙ vps) (λ v h.
    let within : v < length c.in_ok-overflow.overflow = omega (arith, h, vps) in
    let there : v < length c.args.y.now.numbers = omega (arith, h, c.requires.same) in
    c.put_all_results.ensures.overflow v within
    ∙ ap (λ w. overflows w (number_at xs v) (number_at ys v)) width
    ∙ ap (λ x. overflows L x (number_at ys v)) (c.low.ensures.at v h)
    ∙ ap (overflows L (operand L c.args.x.now v)) (c.low-2.ensures.at v there))
