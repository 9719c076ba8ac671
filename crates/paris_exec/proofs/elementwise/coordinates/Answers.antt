use Rattle.std.proofs.Common.{ℕ, ◌/◌, ◌%◌, ◌^◌, List, ◌∙◌, sym, ap}
use Rattle.paris_field.specs.Fields.{FieldNumbers}
use Rattle.paris_model.specs.Store.{everywhere}
use Rattle.paris_exec.proofs.Addresses.{coordinates_are}
use Rattle.paris_exec.proofs.Operands.{ok_then}
use Rattle.paris_exec.proofs.elementwise.coordinates.Goals as goal

pub returns : goal.returns
returns c =
    let made : List ℕ → FieldNumbers = λ xs. record { width = c.args.bits; numbers = xs } in
    let from : ℕ = c.first_bit.result in
    ok_then _ _ c.address_bits.result (λ value is.
    is
    ∙ ap (λ (k : ℕ). made (everywhere c.vps-vps.result (λ v. v / 2 ^ from % 2 ^ k))) c.min-count.ensures
    ∙ ap made (coordinates_are c.args.geometry c.args.axis from c.exponent.result c.args.bits c.vps-vps.result c.first_bit.ensures.value (sym c.len.ensures ∙ c.exponent.ensures.value) c.vps-vps.ensures.value))
    c.address_bits.ensures
