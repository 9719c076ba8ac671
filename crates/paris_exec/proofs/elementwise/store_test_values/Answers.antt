use Rattle.std.proofs.Common.{◌≡◌, ◌≤◌, ◌∙◌, refl, sym, ap, subst, true, []}
use Rattle.paris_names.specs.declared.keys.FlagName.TheVariants.{Test}
use Rattle.paris_names.specs.declared.keys.Key.TheVariants.{Field, Flag}
use Rattle.paris_names.specs.Keys.{has_key}
use Rattle.paris_model.specs.declared.actions.Conditional.TheVariants.{StoreTest}
use Rattle.paris_model.specs.Instructions.{Plan, reads, key_width}
use Rattle.paris_field.specs.Fields.{FieldNumbers}
use Rattle.paris_exec.specs.Tasks.{field_of, seen_at}
use Rattle.paris_exec.proofs.Executed.{flag_width}
use Rattle.paris_exec.proofs.Left.{store_test_left}
use Rattle.paris_exec.proofs.Operands.{ok_then, field_read, one_bit_to, store_test_read}
use Rattle.paris_exec.proofs.elementwise.store_test_values.Goals as goal

pub input-requires : goal.input-requires
input-requires c =
    subst (λ s. has_key (reads c.args.order.now.plan) (Flag s Test) ≡ true) (sym (c.set.ensures ∙ ap (λ (p : Plan). p.set_no) c.plan.ensures)) (store_test_read c.args.order.now c.args.to.now c.requires.acts)

pub put_field-requires-clause-read : goal.put_field-requires-clause-read
put_field-requires-clause-read c = field_read c.args.order.now (StoreTest c.args.to.now) c.requires.acts c.args.to.now.field [] refl

pub put_field-requires-clause-fits_key : goal.put_field-requires-clause-fits_key
put_field-requires-clause-fits_key c =
    subst (λ (y : FieldNumbers). y.width ≤ key_width c.args.order.now.plan (Field c.args.to.now.field)) (sym (c.in_ok-new.ensures ∙ c.input.ensures.value))
    (subst (λ n. n ≤ key_width c.args.order.now.plan (Field c.args.to.now.field)) (sym (flag_width c.args.order.now.plan c.set.result Test)) (one_bit_to c.args.order.now (StoreTest c.args.to.now) c.requires.acts c.args.to.now refl c.requires.fit))

pub returns : goal.returns
returns c =
    ok_then _ _ c.put_field.result (λ values is.
    is
    ∙ store_test_left c.args.order.now c.args.to.now c.requires.acts c.in_ok-new.new
    (c.in_ok-new.ensures ∙ c.input.ensures.value ∙ ap (λ s. field_of c.args.order.now.plan (Flag s Test) (seen_at c.args.order.now (Flag s Test))) (c.set.ensures ∙ ap (λ (p : Plan). p.set_no) c.plan.ensures)))
    c.put_field.ensures
