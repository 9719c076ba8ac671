use Rattle.std.proofs.Common.{◌≤◌, ◌∙◌, ◌/◌, ◌%◌, ◌^◌, refl, ap, sym, subst, List, ℕ, []}
use Rattle.paris_names.specs.declared.keys.Key.TheVariants.{Field}
use Rattle.paris_geometry.specs.Geometry.{processor_count}
use Rattle.paris_model.specs.declared.actions.Conditional.TheVariants.{MyAddress}
use Rattle.paris_model.specs.Store.{everywhere, low}
use Rattle.paris_model.specs.Instructions.{Plan, key_width}
use Rattle.paris_field.specs.Fields.{FieldNumbers}
use Rattle.paris_exec.proofs.Addresses.{addresses_are}
use Rattle.paris_exec.proofs.Left.{address_left}
use Rattle.paris_exec.proofs.Operands.{ok_then, field_read, alone_to, lengths_fit, numbers_count}
use Rattle.paris_exec.proofs.elementwise.address_values.Goals as goal

pub put_field-requires-clause-read : goal.put_field-requires-clause-read
put_field-requires-clause-read c = field_read c.args.order.now (MyAddress c.args.to.now c.args.bits) c.requires.acts c.args.to.now.field [] refl

pub put_field-requires-clause-fits_key : goal.put_field-requires-clause-fits_key
put_field-requires-clause-fits_key c =
    subst (λ (y : FieldNumbers). y.width ≤ key_width c.args.order.now.plan (Field c.args.to.now.field)) (sym c.in_ok-new.ensures)
    (alone_to c.args.order.now (MyAddress c.args.to.now c.args.bits) c.requires.acts c.args.to.now refl c.requires.fit c.args.bits (lengths_fit c.args.order.now (MyAddress c.args.to.now c.args.bits) c.requires.acts c.requires.fit))

pub put_field-requires-clause-count : goal.put_field-requires-clause-count
put_field-requires-clause-count c =
    numbers_count c.in_ok-new.new c.args.bits c.vps-vps.result _ _ c.in_ok-new.ensures (c.vps-vps.ensures.value ∙ ap processor_count (c.geometry.ensures ∙ ap (λ (p : Plan). p.axes) c.plan.ensures))

pub returns : goal.returns
returns c =
    let made : List ℕ → FieldNumbers = λ xs. record { width = c.args.bits; numbers = xs } in
    ok_then _ _ c.put_field.result (λ values is.
    is
    ∙ address_left c.args.order.now c.args.to.now c.args.bits c.requires.acts c.in_ok-new.new
    (c.in_ok-new.ensures
    ∙ ap (λ (k : ℕ). made (everywhere c.vps-vps.result (λ v. v / 2 ^ 0 % 2 ^ k))) c.min-count.ensures
    ∙ ap made (addresses_are c.vps-vps.result c.args.bits c.vps-vps.ensures.few)
    ∙ ap (λ n. made (everywhere n (low c.args.bits))) (c.vps-vps.ensures.value ∙ ap processor_count (c.geometry.ensures ∙ ap (λ (p : Plan). p.axes) c.plan.ensures))))
    c.put_field.ensures
