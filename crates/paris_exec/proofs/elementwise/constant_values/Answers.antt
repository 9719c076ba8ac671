use Rattle.std.proofs.Common.{◌≡◌, ◌≤◌, ◌∙◌, refl, ap, sym, subst, length, List, ℕ, replicate, false, [], arith, ◌^◌}
use Rattle.std.specs.Prelude.{nat_le}
use Rattle.std.proofs.lemmas.Bool.Decides.{nat_tests}
use Rattle.std.proofs.lemmas.List.{length-replicate}
use Rattle.paris_names.specs.declared.keys.Key.TheVariants.{Field}
use Rattle.paris_geometry.specs.Geometry.{processor_count}
use Rattle.paris_model.specs.declared.actions.Conditional.TheVariants.{MoveConstant}
use Rattle.paris_model.specs.Instructions.{Plan, key_width}
use Rattle.paris_field.specs.Fields.{FieldNumbers}
use Rattle.paris_exec.proofs.Left.{constant_left}
use Rattle.paris_exec.proofs.Operands.{ok_then, field_read, alone_to, lengths_fit, operands_fit}
use Rattle.paris_exec.proofs.elementwise.constant_values.Goals as goal

pub constant-requires-clause-fits : goal.constant-requires-clause-fits
constant-requires-clause-fits c =
    let fits : nat_le (2 ^ c.args.bits) c.args.value ≡ false = operands_fit c.args.order.now (MoveConstant c.args.to.now c.args.value c.args.bits) c.requires.acts c.requires.fit in
    grind (arith, nat_tests, fits)

pub put_field-requires-clause-read : goal.put_field-requires-clause-read
put_field-requires-clause-read c = field_read c.args.order.now (MoveConstant c.args.to.now c.args.value c.args.bits) c.requires.acts c.args.to.now.field [] refl

pub put_field-requires-clause-fits_key : goal.put_field-requires-clause-fits_key
put_field-requires-clause-fits_key c =
    subst (λ (y : FieldNumbers). y.width ≤ key_width c.args.order.now.plan (Field c.args.to.now.field)) (sym c.in_ok-new.ensures)
    (alone_to c.args.order.now (MoveConstant c.args.to.now c.args.value c.args.bits) c.requires.acts c.args.to.now refl c.requires.fit c.args.bits (lengths_fit c.args.order.now (MoveConstant c.args.to.now c.args.value c.args.bits) c.requires.acts c.requires.fit))

pub put_field-requires-clause-count : goal.put_field-requires-clause-count
put_field-requires-clause-count c =
    ap (λ (y : FieldNumbers). length y.numbers) c.in_ok-new.ensures ∙ length-replicate c.vps-vps.result c.args.value ∙ (c.vps-vps.ensures.value ∙ ap processor_count (c.geometry.ensures ∙ ap (λ (p : Plan). p.axes) c.plan.ensures))

pub returns : goal.returns
returns c =
    let made : List ℕ → FieldNumbers = λ xs. record { width = c.args.bits; numbers = xs } in
    ok_then _ _ c.put_field.result (λ values is.
    is
    ∙ constant_left c.args.order.now c.args.to.now c.args.value c.args.bits c.requires.acts c.in_ok-new.new
    (c.in_ok-new.ensures ∙ ap (λ n. made (replicate n c.args.value)) (c.vps-vps.ensures.value ∙ ap processor_count (c.geometry.ensures ∙ ap (λ (p : Plan). p.axes) c.plan.ensures))))
    c.put_field.ensures
