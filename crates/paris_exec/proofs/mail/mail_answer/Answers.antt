use Rattle.std.proofs.Common.{◌≡◌, ◌∙◌, true, sym, ap, subst}
use Rattle.paris_names.specs.declared.keys.Key.TheVariants.{Field}
use Rattle.paris_names.specs.Keys.{has_key}
use Rattle.paris_model.specs.declared.actions.Operand.{Operand}
use Rattle.paris_model.specs.Instructions.{reads}
use Rattle.paris_field.specs.Fields.{FieldNumbers}
use Rattle.paris_exec.specs.Tasks.{seen_at}
use Rattle.paris_exec.proofs.ByMail.{mail_from_read}
use Rattle.paris_exec.proofs.mail.mail_answer.Goals as goal

pub input-x-requires : goal.input-x-requires
input-x-requires c =
    subst (λ (o : Operand). has_key (reads c.args.order.now.plan) (Field o.field) ≡ true) (sym c.source_of.ensures) (mail_from_read c.args.order.now c.args.i.now c.requires.acts)

pub answer_from-requires-2-clause-x_numbers : goal.answer_from-requires-2-clause-x_numbers
answer_from-requires-2-clause-x_numbers c =
    ap (λ (y : FieldNumbers). y.numbers) (c.in_ok-wide.ensures ∙ ap (λ (y : FieldNumbers). record { width = c.length_of-bits.result; numbers = y.numbers }) c.input-x.ensures.value)
    ∙ ap (λ (o : Operand). seen_at c.args.order.now (Field o.field)) c.source_of.ensures
