use Rattle.std.proofs.Common.{◌≤◌, ◌∙◌, None, refl, sym, ap, subst, length}
use Rattle.paris_names.specs.declared.keys.Key.TheVariants.{Field}
use Rattle.paris_model.specs.declared.actions.Mail.TheVariants.{Get}
use Rattle.paris_model.specs.Instructions.{key_width}
use Rattle.paris_field.specs.Fields.{FieldNumbers}
use Rattle.paris_router.specs.Mail.{refusal_of}
use Rattle.paris_exec.proofs.ByMail.{get_left, get_refused, mail_addresses_read, mail_both_read, mail_context_read, mail_target_wide}
use Rattle.paris_exec.proofs.Operands.{if_ok, numbers_count}
use Rattle.paris_exec.proofs.mail.get_answer.Goals as goal

pub input-places-requires : goal.input-places-requires
input-places-requires c =
    mail_addresses_read c.args.order.now (Get c.args.to.now c.args.addresses.now c.args.from.now c.args.bits) c.requires.acts c.args.addresses.now c.args.from.now refl

pub flag_plane-selected-requires : goal.flag_plane-selected-requires
flag_plane-selected-requires c =
    mail_context_read c.args.order.now (Get c.args.to.now c.args.addresses.now c.args.from.now c.args.bits) c.requires.acts

pub put_field-requires-clause-read : goal.put_field-requires-clause-read
put_field-requires-clause-read c =
    mail_both_read c.args.order.now (Get c.args.to.now c.args.addresses.now c.args.from.now c.args.bits) c.requires.acts c.args.to.now None refl

pub put_field-requires-clause-fits_key : goal.put_field-requires-clause-fits_key
put_field-requires-clause-fits_key c =
    subst (λ (y : FieldNumbers). y.width ≤ key_width c.args.order.now.plan (Field c.args.to.now.field)) (sym (if_ok _ c.in-Ok.is c.in_ok-new.ensures.value)) (mail_target_wide c.args.order.now (Get c.args.to.now c.args.addresses.now c.args.from.now c.args.bits) c.requires.acts c.args.to.now None refl c.requires.fit c.args.bits c.args.from.now refl)

pub put_field-requires-clause-count : goal.put_field-requires-clause-count
put_field-requires-clause-count c =
    numbers_count c.in-Ok.new c.args.bits (length c.args.x.now.numbers) _ _ (if_ok _ c.in-Ok.is c.in_ok-new.ensures.value) c.requires.x_count

pub returns-in_ok-put_field-in-Ok-clause-values : goal.returns-in_ok-put_field-in-Ok-clause-values
returns-in_ok-put_field-in-Ok-clause-values c =
    c.in_ok-put_field-in-Ok.ensures ∙ get_left c.args.order.now c.args.addresses.now c.args.from.now c.args.bits c.input-places.result.now c.args.x.now c.flag_plane-selected.result.now c.flag_plane-selected.ensures.bits c.input-places.ensures.value c.input-places.ensures.count c.requires.x_numbers c.requires.x_count c.args.to.now c.requires.acts c.in-Ok.new (if_ok _ c.in-Ok.is c.in_ok-new.ensures.value)

pub returns-in-Err-clause-refused : goal.returns-in-Err-clause-refused
returns-in-Err-clause-refused c =
    sym (ap refusal_of c.in-Err.is) ∙ c.in_ok-new.ensures.refused ∙ get_refused c.args.order.now c.args.addresses.now c.args.from.now c.args.bits c.input-places.result.now c.args.x.now c.flag_plane-selected.result.now c.flag_plane-selected.ensures.bits c.input-places.ensures.value c.input-places.ensures.count c.requires.x_numbers c.requires.x_count c.args.to.now c.requires.acts
