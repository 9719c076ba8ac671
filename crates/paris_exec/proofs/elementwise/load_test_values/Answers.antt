use Rattle.std.proofs.Common.{◌∙◌, refl, ap}
use Rattle.paris_names.specs.declared.keys.FlagName.TheVariants.{Test}
use Rattle.paris_model.specs.declared.actions.Conditional.TheVariants.{LoadTest}
use Rattle.paris_field.specs.Fields.{FieldNumbers}
use Rattle.paris_exec.proofs.Left.{load_test_left}
use Rattle.paris_exec.proofs.Operands.{ok_then, flag_read, operands_fit, one_bit, load_test_read}
use Rattle.paris_exec.proofs.elementwise.load_test_values.Goals as goal

pub input-requires : goal.input-requires
input-requires c = load_test_read c.args.order.now c.args.from.now c.requires.acts

pub mask-requires : goal.mask-requires
mask-requires c =
    ap (λ (y : FieldNumbers). y.width) c.input.ensures.value ∙ one_bit c.args.order.now (LoadTest c.args.from.now) c.requires.acts c.args.from.now refl c.requires.fit (operands_fit c.args.order.now (LoadTest c.args.from.now) c.requires.acts c.requires.fit)

pub put_flag_alone-requires-clause-read : goal.put_flag_alone-requires-clause-read
put_flag_alone-requires-clause-read c = flag_read c.args.order.now (LoadTest c.args.from.now) c.requires.acts Test refl

pub returns : goal.returns
returns c =
    ok_then _ _ c.put_flag_alone.result (λ values is.
    is ∙ load_test_left c.args.order.now c.args.from.now c.requires.acts c.input.result.now c.in_ok-new.new c.input.ensures.value (rw c.in_ok-new.ensures c.mask.ensures))
    c.put_flag_alone.ensures
