use Rattle.std.proofs.Common.{◌≤◌, ◌∙◌, sym, subst, length}
use Rattle.paris_names.specs.declared.keys.Key.TheVariants.{Field}
use Rattle.paris_model.specs.Instructions.{key_width}
use Rattle.paris_field.specs.Fields.{FieldNumbers}
use Rattle.paris_exec.proofs.Left.{resize_left}
use Rattle.paris_exec.proofs.Operands.{ok_then, numbers_count, bits_count, resize_source, resize_read, resize_to, resize_lengths, narrow_length}
use Rattle.paris_exec.proofs.elementwise.resized_values.Goals as goal

pub input-x-requires : goal.input-x-requires
input-x-requires c = resize_source c.args.order.now c.args.sign c.args.to.now c.args.from.now c.args.bits c.args.from_bits c.requires.acts

pub resized-requires-clause-positive : goal.resized-requires-clause-positive
resized-requires-clause-positive c = (resize_lengths c.args.order.now c.args.sign c.args.to.now c.args.from.now c.args.bits c.args.from_bits c.requires.acts c.requires.fit).0

pub resized-requires-clause-narrow : goal.resized-requires-clause-narrow
resized-requires-clause-narrow c = narrow_length c.args.order.now c.args.to.now.field c.args.bits c.requires.fit (resize_to c.args.order.now c.args.sign c.args.to.now c.args.from.now c.args.bits c.args.from_bits c.requires.acts c.requires.fit)

pub resized-requires-clause-from_some : goal.resized-requires-clause-from_some
resized-requires-clause-from_some c = (resize_lengths c.args.order.now c.args.sign c.args.to.now c.args.from.now c.args.bits c.args.from_bits c.requires.acts c.requires.fit).1

pub resized-requires-clause-from_narrow : goal.resized-requires-clause-from_narrow
resized-requires-clause-from_narrow c = (resize_lengths c.args.order.now c.args.sign c.args.to.now c.args.from.now c.args.bits c.args.from_bits c.requires.acts c.requires.fit).2

pub put_overflowing-requires-clause-read : goal.put_overflowing-requires-clause-read
put_overflowing-requires-clause-read c = resize_read c.args.order.now c.args.sign c.args.to.now c.args.from.now c.args.bits c.args.from_bits c.requires.acts

pub put_overflowing-requires-clause-fits_key : goal.put_overflowing-requires-clause-fits_key
put_overflowing-requires-clause-fits_key c =
    subst (λ (y : FieldNumbers). y.width ≤ key_width c.args.order.now.plan (Field c.args.to.now.field)) (sym c.in_ok-new.ensures.value) (resize_to c.args.order.now c.args.sign c.args.to.now c.args.from.now c.args.bits c.args.from_bits c.requires.acts c.requires.fit)

pub put_overflowing-requires-clause-count : goal.put_overflowing-requires-clause-count
put_overflowing-requires-clause-count c =
    numbers_count c.in_ok-new.new.value c.args.bits (length c.input-x.result.now.numbers) _ _ c.in_ok-new.ensures.value c.input-x.ensures.count

pub put_overflowing-requires-clause-flags : goal.put_overflowing-requires-clause-flags
put_overflowing-requires-clause-flags c =
    bits_count c.in_ok-new.new.overflow (length c.input-x.result.now.numbers) _ _ c.in_ok-new.ensures.overflow c.input-x.ensures.count

pub returns : goal.returns
returns c =
    ok_then _ _ c.put_overflowing.result (λ values is.
    is ∙ resize_left c.args.order.now c.args.sign c.args.to.now c.args.from.now c.args.bits c.args.from_bits c.requires.acts c.input-x.result.now c.input-x.ensures.value c.input-x.ensures.count c.in_ok-new.new.value c.in_ok-new.new.overflow c.in_ok-new.ensures.value c.in_ok-new.ensures.overflow)
    c.put_overflowing.ensures
