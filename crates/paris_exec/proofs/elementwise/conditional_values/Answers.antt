use Rattle.std.proofs.Common.{◌∙◌, refl, ap, replicate, true, false}
use Rattle.paris_names.specs.declared.keys.FlagName.TheVariants.{Test}
use Rattle.paris_geometry.specs.Geometry.{processor_count}
use Rattle.paris_model.specs.declared.actions.Action.TheVariants.{OnSelected}
use Rattle.paris_model.specs.declared.actions.Conditional.TheVariants.{SetTest, ClearTest}
use Rattle.paris_model.specs.Instructions.{Plan}
use Rattle.paris_exec.proofs.Left.{set_test_left, clear_test_left}
use Rattle.paris_exec.proofs.Operands.{ok_then, flag_read}
use Rattle.paris_exec.proofs.elementwise.conditional_values.Goals as goal

pub put_flag_alone-requires-clause-read : goal.put_flag_alone-requires-clause-read
put_flag_alone-requires-clause-read c =
    flag_read c.args.order.now (SetTest c.in-SetTest.field-0) (c.requires.acts ∙ ap OnSelected c.in-SetTest.is) Test refl

pub put_flag_alone-requires-in-ClearTest-clause-read : goal.put_flag_alone-requires-in-ClearTest-clause-read
put_flag_alone-requires-in-ClearTest-clause-read c =
    flag_read c.args.order.now (ClearTest c.in-ClearTest.field-0) (c.requires.acts ∙ ap OnSelected c.in-ClearTest.is) Test refl

pub returns-in-SetTest : goal.returns-in-SetTest
returns-in-SetTest c =
    ok_then _ _ c.put_flag_alone.result (λ values is.
    is ∙ set_test_left c.args.order.now c.in-SetTest.field-0 (c.requires.acts ∙ ap OnSelected c.in-SetTest.is) c.filled.result
    (c.filled.ensures ∙ ap (λ n. replicate n true) (c.vps-vps.ensures.value ∙ ap processor_count (c.geometry.ensures ∙ ap (λ (p : Plan). p.axes) c.plan.ensures))))
    c.put_flag_alone.ensures

pub returns-in-ClearTest : goal.returns-in-ClearTest
returns-in-ClearTest c =
    ok_then _ _ c.put_flag_alone-in-ClearTest.result (λ values is.
    is ∙ clear_test_left c.args.order.now c.in-ClearTest.field-0 (c.requires.acts ∙ ap OnSelected c.in-ClearTest.is) c.filled-in-ClearTest.result
    (c.filled-in-ClearTest.ensures ∙ ap (λ n. replicate n false) (c.vps-vps.ensures.value ∙ ap processor_count (c.geometry.ensures ∙ ap (λ (p : Plan). p.axes) c.plan.ensures))))
    c.put_flag_alone-in-ClearTest.ensures
