use Rattle.std.proofs.Common.{◌≡◌, ◌&&◌, ◌||◌, ℕ, ◌∙◌, ap, bit_and, length, List, Bool, refl, sym}
use Rattle.std.specs.Int.Bits.{bit_or, bit_xor}
use Rattle.std.specs.Simd.Lanes.{zip2}
use Rattle.std.proofs.lemmas.Simd.{length-zip2}
use Rattle.std.proofs.lemmas.Result.{IfOk-weaker}
use Rattle.paris_plane.specs.Bits.{differ}
use Rattle.paris_field.specs.Fields.{FieldNumbers, operand}
use Rattle.paris_field.specs.Numbers.{value_of_planes}
use Rattle.paris_alu.specs.declared.bitwise.BitOperator.{BitOperator}
use Rattle.paris_alu.specs.Alu.{binary_field, bitwise_operator}
use Rattle.paris_field.proofs.Places.{Holds, held}
use Rattle.paris_alu.proofs.Combined.{and_number, bitwise_field, or_number, xor_number}
use Rattle.paris_alu.proofs.bitwise.logic.Goals as goal

pub returns-in-And : goal.returns-in-And
returns-in-And c =
    let n : ℕ = length c.args.x.now.numbers in
    let L : ℕ = c.args.bits in
    let f : ℕ → ℕ = operand L c.args.x.now in
    let g : ℕ → ℕ = operand L c.args.y.now in
    let xs : List (List Bool) = c.low-xs.result.now in
    let ys : List (List Bool) = c.low-ys.result.now in
    let zs : List (List Bool) = zip2 (zip2 (λ a b. a && b)) xs ys in
    let hx : Holds n L f xs = held n n L f xs refl c.low-xs.ensures.count c.low-xs.ensures.long c.low-xs.ensures.at in
    let hy : Holds n L g ys = held n (length c.args.y.now.numbers) L g ys (sym c.requires.same) c.low-ys.ensures.count c.low-ys.ensures.long c.low-ys.ensures.at in
    let same : length xs ≡ length ys = hx.count ∙ sym hy.count in
    let by : BitOperator → FieldNumbers = λ o. binary_field (bitwise_operator o) L c.args.x.now c.args.y.now (λ _. 0) in
    IfOk-weaker c.combined.result _ (λ (value : FieldNumbers). value ≡ by c.args.operator)
    (λ value is.
    is ∙ ap (λ (m : ℕ). value_of_planes m zs) c.len-vps.ensures
    ∙ bitwise_field bit_and n L f g xs ys zs hx hy (length-zip2 (zip2 (λ a b. a && b)) xs ys same) (λ v h. and_number n xs ys v same hx.long hy.long h)
    ∙ ap by (sym c.in-And.is)) c.combined.ensures

pub returns-in-Or : goal.returns-in-Or
returns-in-Or c =
    let n : ℕ = length c.args.x.now.numbers in
    let L : ℕ = c.args.bits in
    let f : ℕ → ℕ = operand L c.args.x.now in
    let g : ℕ → ℕ = operand L c.args.y.now in
    let xs : List (List Bool) = c.low-xs.result.now in
    let ys : List (List Bool) = c.low-ys.result.now in
    let zs : List (List Bool) = zip2 (zip2 (λ a b. a || b)) xs ys in
    let hx : Holds n L f xs = held n n L f xs refl c.low-xs.ensures.count c.low-xs.ensures.long c.low-xs.ensures.at in
    let hy : Holds n L g ys = held n (length c.args.y.now.numbers) L g ys (sym c.requires.same) c.low-ys.ensures.count c.low-ys.ensures.long c.low-ys.ensures.at in
    let same : length xs ≡ length ys = hx.count ∙ sym hy.count in
    let by : BitOperator → FieldNumbers = λ o. binary_field (bitwise_operator o) L c.args.x.now c.args.y.now (λ _. 0) in
    IfOk-weaker c.combined-in-Or.result _ (λ (value : FieldNumbers). value ≡ by c.args.operator)
    (λ value is.
    is ∙ ap (λ (m : ℕ). value_of_planes m zs) c.len-vps.ensures
    ∙ bitwise_field bit_or n L f g xs ys zs hx hy (length-zip2 (zip2 (λ a b. a || b)) xs ys same) (λ v h. or_number n xs ys v same hx.long hy.long h)
    ∙ ap by (sym c.in-Or.is)) c.combined-in-Or.ensures

pub returns-in-Xor : goal.returns-in-Xor
returns-in-Xor c =
    let n : ℕ = length c.args.x.now.numbers in
    let L : ℕ = c.args.bits in
    let f : ℕ → ℕ = operand L c.args.x.now in
    let g : ℕ → ℕ = operand L c.args.y.now in
    let xs : List (List Bool) = c.low-xs.result.now in
    let ys : List (List Bool) = c.low-ys.result.now in
    let zs : List (List Bool) = zip2 (zip2 differ) xs ys in
    let hx : Holds n L f xs = held n n L f xs refl c.low-xs.ensures.count c.low-xs.ensures.long c.low-xs.ensures.at in
    let hy : Holds n L g ys = held n (length c.args.y.now.numbers) L g ys (sym c.requires.same) c.low-ys.ensures.count c.low-ys.ensures.long c.low-ys.ensures.at in
    let same : length xs ≡ length ys = hx.count ∙ sym hy.count in
    let by : BitOperator → FieldNumbers = λ o. binary_field (bitwise_operator o) L c.args.x.now c.args.y.now (λ _. 0) in
    IfOk-weaker c.combined-in-Xor.result _ (λ (value : FieldNumbers). value ≡ by c.args.operator)
    (λ value is.
    is ∙ ap (λ (m : ℕ). value_of_planes m zs) c.len-vps.ensures
    ∙ bitwise_field bit_xor n L f g xs ys zs hx hy (length-zip2 (zip2 differ) xs ys same) (λ v h. xor_number n xs ys v same hx.long hy.long h)
    ∙ ap by (sym c.in-Xor.is)) c.combined-in-Xor.ensures
