use Rattle.std.proofs.Common.{◌*ℤ◌, ◌^◌, arith, rules, refl}
use Rattle.std.specs.Int.{w128}
use Rattle.std.specs.Prelude.{FitsSigned}
use Rattle.std.proofs.lemmas.Int.{fits_signed_mul, to_z-of_z}
use Rattle.paris_plain.proofs.elementwise.signed_product.Goals as goal

pub overflow_mul-result : goal.overflow_mul-result
overflow_mul-result c =
    let x_fits : FitsSigned w128 c.signed_value.result = search rules in
    let y_fits : FitsSigned w128 c.signed_value-2.result = search rules in
    simp to_z-of_z (fits_signed_mul w128 c.signed_value.result c.signed_value-2.result (2 ^ 63) (2 ^ 63) c.signed_value.ensures.small c.signed_value-2.ensures.small (omega arith))

pub returns : goal.returns
returns c =
    let x_fits : FitsSigned w128 c.signed_value.result = search rules in
    let y_fits : FitsSigned w128 c.signed_value-2.result = search rules in
    let fits : FitsSigned w128 (c.signed_value.result *ℤ c.signed_value-2.result) =
    fits_signed_mul w128 c.signed_value.result c.signed_value-2.result (2 ^ 63) (2 ^ 63) c.signed_value.ensures.small c.signed_value-2.ensures.small (omega arith) in
    simp to_z-of_z (rw (c.signed_value.ensures.value, c.signed_value-2.ensures.value) refl)
