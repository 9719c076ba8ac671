use Rattle.std.proofs.Common.{◌≤◌, ◌∙◌, sym, subst, ap, length}
use Rattle.paris_names.specs.declared.keys.Key.TheVariants.{Field}
use Rattle.paris_model.specs.declared.operators.UnaryOperator.{UnaryOperator}
use Rattle.paris_model.specs.Elementwise.{unary_flags}
use Rattle.paris_model.specs.Instructions.{key_width}
use Rattle.paris_alu.specs.Alu.{unary_field, unary_overflow_plane}
use Rattle.paris_field.specs.Fields.{FieldNumbers}
use Rattle.paris_exec.proofs.Left.{unary_left, unary_overflow_left}
use Rattle.paris_exec.proofs.Operands.{ok_then, value_wide, numbers_count, bits_count, unary_source, unary_read, unary_overflow_read, unary_to, unary_from}
use Rattle.paris_exec.proofs.elementwise.unary_values.Goals as goal

pub input-x-requires : goal.input-x-requires
input-x-requires c =
    unary_source c.args.order.now c.args.operator c.args.to.now c.args.from.now c.args.bits c.requires.acts

pub negate-requires-clause-x_width : goal.negate-requires-clause-x_width
negate-requires-clause-x_width c =
    value_wide c.args.order.now (Field c.args.from.now.field) c.input-x.result.now c.args.bits c.input-x.ensures.value (unary_from c.args.order.now c.args.operator c.args.to.now c.args.from.now c.args.bits c.requires.acts c.requires.fit)

pub invert-requires-clause-x_width : goal.invert-requires-clause-x_width
invert-requires-clause-x_width c =
    value_wide c.args.order.now (Field c.args.from.now.field) c.input-x.result.now c.args.bits c.input-x.ensures.value (unary_from c.args.order.now c.args.operator c.args.to.now c.args.from.now c.args.bits c.requires.acts c.requires.fit)

pub copy_low-requires-clause-x_width : goal.copy_low-requires-clause-x_width
copy_low-requires-clause-x_width c =
    value_wide c.args.order.now (Field c.args.from.now.field) c.input-x.result.now c.args.bits c.input-x.ensures.value (unary_from c.args.order.now c.args.operator c.args.to.now c.args.from.now c.args.bits c.requires.acts c.requires.fit)

pub put_overflowing-requires-clause-read : goal.put_overflowing-requires-clause-read
put_overflowing-requires-clause-read c =
    unary_overflow_read c.args.order.now c.args.operator c.args.to.now c.args.from.now c.args.bits c.requires.acts (ap unary_flags c.in-Negate.is)

pub put_overflowing-requires-clause-fits_key : goal.put_overflowing-requires-clause-fits_key
put_overflowing-requires-clause-fits_key c =
    subst (λ (y : FieldNumbers). y.width ≤ key_width c.args.order.now.plan (Field c.args.to.now.field)) (sym c.in_ok-negate-in-Negate.ensures.value) (unary_to c.args.order.now c.args.operator c.args.to.now c.args.from.now c.args.bits c.requires.acts c.requires.fit)

pub put_overflowing-requires-clause-count : goal.put_overflowing-requires-clause-count
put_overflowing-requires-clause-count c =
    numbers_count c.in_ok-negate-in-Negate.field-0.value c.args.bits (length c.input-x.result.now.numbers) _ _ c.in_ok-negate-in-Negate.ensures.value c.input-x.ensures.count

pub put_overflowing-requires-clause-flags : goal.put_overflowing-requires-clause-flags
put_overflowing-requires-clause-flags c =
    bits_count c.in_ok-negate-in-Negate.field-0.overflow (length c.input-x.result.now.numbers) _ _ c.in_ok-negate-in-Negate.ensures.overflow c.input-x.ensures.count

pub put_field-requires-clause-read : goal.put_field-requires-clause-read
put_field-requires-clause-read c =
    unary_read c.args.order.now c.args.operator c.args.to.now c.args.from.now c.args.bits c.requires.acts

pub put_field-requires-clause-fits_key : goal.put_field-requires-clause-fits_key
put_field-requires-clause-fits_key c =
    subst (λ (y : FieldNumbers). y.width ≤ key_width c.args.order.now.plan (Field c.args.to.now.field)) (sym c.in_ok-invert-in-BitNot.ensures) (unary_to c.args.order.now c.args.operator c.args.to.now c.args.from.now c.args.bits c.requires.acts c.requires.fit)

pub put_field-requires-clause-count : goal.put_field-requires-clause-count
put_field-requires-clause-count c =
    numbers_count c.in_ok-invert-in-BitNot.field-0 c.args.bits (length c.input-x.result.now.numbers) _ _ c.in_ok-invert-in-BitNot.ensures c.input-x.ensures.count

pub put_field-requires-in-Move-clause-read : goal.put_field-requires-in-Move-clause-read
put_field-requires-in-Move-clause-read c =
    unary_read c.args.order.now c.args.operator c.args.to.now c.args.from.now c.args.bits c.requires.acts

pub put_field-requires-in-Move-clause-fits_key : goal.put_field-requires-in-Move-clause-fits_key
put_field-requires-in-Move-clause-fits_key c =
    subst (λ (y : FieldNumbers). y.width ≤ key_width c.args.order.now.plan (Field c.args.to.now.field)) (sym c.in_ok-copy_low-in-Move.ensures) (unary_to c.args.order.now c.args.operator c.args.to.now c.args.from.now c.args.bits c.requires.acts c.requires.fit)

pub put_field-requires-in-Move-clause-count : goal.put_field-requires-in-Move-clause-count
put_field-requires-in-Move-clause-count c =
    numbers_count c.in_ok-copy_low-in-Move.field-0 c.args.bits (length c.input-x.result.now.numbers) _ _ c.in_ok-copy_low-in-Move.ensures c.input-x.ensures.count

pub returns-in_ok-negate-in-Negate : goal.returns-in_ok-negate-in-Negate
returns-in_ok-negate-in-Negate c =
    ok_then _ _ c.put_overflowing.result (λ values is. is ∙ unary_overflow_left c.args.order.now c.args.operator c.args.to.now c.args.from.now c.args.bits c.requires.acts c.input-x.result.now c.input-x.ensures.value c.input-x.ensures.count c.in_ok-negate-in-Negate.field-0.value (c.in_ok-negate-in-Negate.ensures.value ∙ ap (λ (o : UnaryOperator). unary_field o c.args.bits c.input-x.result.now) (sym c.in-Negate.is)) c.in_ok-negate-in-Negate.field-0.overflow (ap unary_flags c.in-Negate.is) (c.in_ok-negate-in-Negate.ensures.overflow ∙ ap (λ (o : UnaryOperator). unary_overflow_plane o c.args.bits c.input-x.result.now) (sym c.in-Negate.is))) c.put_overflowing.ensures

pub returns-in_ok-invert-in-BitNot : goal.returns-in_ok-invert-in-BitNot
returns-in_ok-invert-in-BitNot c =
    ok_then _ _ c.put_field.result (λ values is. is ∙ unary_left c.args.order.now c.args.operator c.args.to.now c.args.from.now c.args.bits c.requires.acts c.input-x.result.now c.input-x.ensures.value c.input-x.ensures.count c.in_ok-invert-in-BitNot.field-0 (c.in_ok-invert-in-BitNot.ensures ∙ ap (λ (o : UnaryOperator). unary_field o c.args.bits c.input-x.result.now) (sym c.in-BitNot.is)) (ap unary_flags c.in-BitNot.is)) c.put_field.ensures

pub returns-in_ok-copy_low-in-Move : goal.returns-in_ok-copy_low-in-Move
returns-in_ok-copy_low-in-Move c =
    ok_then _ _ c.put_field-in-Move.result (λ values is. is ∙ unary_left c.args.order.now c.args.operator c.args.to.now c.args.from.now c.args.bits c.requires.acts c.input-x.result.now c.input-x.ensures.value c.input-x.ensures.count c.in_ok-copy_low-in-Move.field-0 (c.in_ok-copy_low-in-Move.ensures ∙ ap (λ (o : UnaryOperator). unary_field o c.args.bits c.input-x.result.now) (sym c.in-Move.is)) (ap unary_flags c.in-Move.is)) c.put_field-in-Move.ensures
