use Rattle.std.proofs.Common.{◌∙◌, refl, length}
use Rattle.paris_names.specs.declared.keys.FlagName.TheVariants.{Test}
use Rattle.paris_names.specs.declared.keys.Key.TheVariants.{Field}
use Rattle.paris_model.specs.declared.actions.Conditional.TheVariants.{Compare}
use Rattle.paris_exec.proofs.Left.{compare_left_is}
use Rattle.paris_exec.proofs.Operands.{ok_then, value_wide, bits_count, flag_read, compare_left_read, compare_right_read, compare_left, compare_right}
use Rattle.paris_exec.proofs.elementwise.compare_values.Goals as goal

pub input-x-requires : goal.input-x-requires
input-x-requires c =
    compare_left_read c.args.order.now c.args.comparison c.args.left.now c.args.right.now c.args.bits c.requires.acts

pub input-y-requires : goal.input-y-requires
input-y-requires c =
    compare_right_read c.args.order.now c.args.comparison c.args.left.now c.args.right.now c.args.bits c.requires.acts

pub compare-requires-clause-x_width : goal.compare-requires-clause-x_width
compare-requires-clause-x_width c =
    value_wide c.args.order.now (Field c.args.left.now.field) c.input-x.result.now c.args.bits c.input-x.ensures.value (compare_left c.args.order.now c.args.comparison c.args.left.now c.args.right.now c.args.bits c.requires.acts c.requires.fit)

pub compare-requires-clause-y_width : goal.compare-requires-clause-y_width
compare-requires-clause-y_width c =
    value_wide c.args.order.now (Field c.args.right.now.field) c.input-y.result.now c.args.bits c.input-y.ensures.value (compare_right c.args.order.now c.args.comparison c.args.left.now c.args.right.now c.args.bits c.requires.acts c.requires.fit)

pub put_flag_alone-requires-clause-read : goal.put_flag_alone-requires-clause-read
put_flag_alone-requires-clause-read c =
    flag_read c.args.order.now (Compare c.args.comparison c.args.left.now c.args.right.now c.args.bits) c.requires.acts Test refl

pub put_flag_alone-requires-clause-count : goal.put_flag_alone-requires-clause-count
put_flag_alone-requires-clause-count c =
    bits_count c.in_ok-compare.field-0 (length c.input-x.result.now.numbers) _ _ c.in_ok-compare.ensures c.input-x.ensures.count

pub returns : goal.returns
returns c =
    ok_then _ _ c.put_flag_alone.result (λ values is. is ∙ compare_left_is c.args.order.now c.args.comparison c.args.left.now c.args.right.now c.args.bits c.requires.acts c.input-x.result.now c.input-y.result.now c.input-x.ensures.value c.input-y.ensures.value c.input-x.ensures.count c.in_ok-compare.field-0 c.in_ok-compare.ensures) c.put_flag_alone.ensures
