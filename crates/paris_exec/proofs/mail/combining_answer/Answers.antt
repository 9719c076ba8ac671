use Rattle.std.proofs.Common.{◌≤◌, ◌∙◌, refl, sym, ap, subst, length}
use Rattle.paris_names.specs.declared.keys.Key.TheVariants.{Field}
use Rattle.paris_model.specs.declared.actions.Mail.TheVariants.{CombiningSend}
use Rattle.paris_model.specs.Instructions.{key_width}
use Rattle.paris_field.specs.Fields.{FieldNumbers}
use Rattle.paris_router.specs.Mail.{refusal_of}
use Rattle.paris_exec.proofs.ByMail.{combining_left, combining_refused, mail_addresses_read, mail_context_read, mail_target_read, mail_target_wide}
use Rattle.paris_exec.proofs.Operands.{bits_count, if_ok, numbers_count, value_wide}
use Rattle.paris_exec.proofs.mail.combining_answer.Goals as goal

pub input-places-requires : goal.input-places-requires
input-places-requires c =
    mail_addresses_read c.args.order.now (CombiningSend c.args.combiner c.args.to.now c.args.addresses.now c.args.from.now c.args.bits c.args.notify.now) c.requires.acts c.args.addresses.now c.args.from.now refl

pub input-old-requires : goal.input-old-requires
input-old-requires c =
    mail_target_read c.args.order.now (CombiningSend c.args.combiner c.args.to.now c.args.addresses.now c.args.from.now c.args.bits c.args.notify.now) c.requires.acts c.args.to.now c.args.notify.now refl

pub flag_plane-selected-requires : goal.flag_plane-selected-requires
flag_plane-selected-requires c =
    mail_context_read c.args.order.now (CombiningSend c.args.combiner c.args.to.now c.args.addresses.now c.args.from.now c.args.bits c.args.notify.now) c.requires.acts

pub send_with-requires-clause-old_width : goal.send_with-requires-clause-old_width
send_with-requires-clause-old_width c =
    value_wide c.args.order.now (Field c.args.to.now.field) c.input-old.result.now c.args.bits c.input-old.ensures.value (mail_target_wide c.args.order.now (CombiningSend c.args.combiner c.args.to.now c.args.addresses.now c.args.from.now c.args.bits c.args.notify.now) c.requires.acts c.args.to.now c.args.notify.now refl c.requires.fit c.args.bits c.args.from.now refl)

pub put_delivery-requires-clause-read : goal.put_delivery-requires-clause-read
put_delivery-requires-clause-read c =
    mail_target_read c.args.order.now (CombiningSend c.args.combiner c.args.to.now c.args.addresses.now c.args.from.now c.args.bits c.args.notify.now) c.requires.acts c.args.to.now c.args.notify.now refl

pub put_delivery-requires-clause-fits_key : goal.put_delivery-requires-clause-fits_key
put_delivery-requires-clause-fits_key c =
    subst (λ (y : FieldNumbers). y.width ≤ key_width c.args.order.now.plan (Field c.args.to.now.field)) (sym (if_ok _ c.in-Ok.is c.in_ok-new.ensures.value)) (mail_target_wide c.args.order.now (CombiningSend c.args.combiner c.args.to.now c.args.addresses.now c.args.from.now c.args.bits c.args.notify.now) c.requires.acts c.args.to.now c.args.notify.now refl c.requires.fit c.args.bits c.args.from.now refl)

pub put_delivery-requires-clause-count : goal.put_delivery-requires-clause-count
put_delivery-requires-clause-count c =
    numbers_count c.in-Ok.new.value c.args.bits (length c.input-old.result.now.numbers) _ _ (if_ok _ c.in-Ok.is c.in_ok-new.ensures.value) c.input-old.ensures.count

pub put_delivery-requires-clause-receivers : goal.put_delivery-requires-clause-receivers
put_delivery-requires-clause-receivers c =
    bits_count c.in-Ok.new.receivers (length c.args.x.now.numbers) _ _ (if_ok _ c.in-Ok.is c.in_ok-new.ensures.receivers) c.requires.x_count

pub returns-in_ok-put_delivery-in-Ok-clause-refused : goal.returns-in_ok-put_delivery-in-Ok-clause-refused
returns-in_ok-put_delivery-in-Ok-clause-refused c =
    sym (ap refusal_of c.in-Ok.is) ∙ c.in_ok-new.ensures.refused ∙ combining_refused c.args.order.now c.args.addresses.now c.args.from.now c.args.bits c.input-places.result.now c.args.x.now c.flag_plane-selected.result.now c.flag_plane-selected.ensures.bits c.input-places.ensures.value c.input-places.ensures.count c.requires.x_numbers c.requires.x_count c.args.to.now c.args.combiner c.args.notify.now c.requires.acts

pub returns-in_ok-put_delivery-in-Ok-clause-values : goal.returns-in_ok-put_delivery-in-Ok-clause-values
returns-in_ok-put_delivery-in-Ok-clause-values c =
    c.in_ok-put_delivery-in-Ok.ensures ∙ combining_left c.args.order.now c.args.addresses.now c.args.from.now c.args.bits c.input-places.result.now c.args.x.now c.flag_plane-selected.result.now c.flag_plane-selected.ensures.bits c.input-places.ensures.value c.input-places.ensures.count c.requires.x_numbers c.requires.x_count c.args.to.now c.requires.fit c.args.notify.now c.in-Ok.new (if_ok _ c.in-Ok.is c.in_ok-new.ensures.receivers) c.args.combiner c.input-old.result.now c.requires.acts c.input-old.ensures.value c.input-old.ensures.count (if_ok _ c.in-Ok.is c.in_ok-new.ensures.value)

pub returns-in-Err-clause-refused : goal.returns-in-Err-clause-refused
returns-in-Err-clause-refused c =
    sym (ap refusal_of c.in-Err.is) ∙ c.in_ok-new.ensures.refused ∙ combining_refused c.args.order.now c.args.addresses.now c.args.from.now c.args.bits c.input-places.result.now c.args.x.now c.flag_plane-selected.result.now c.flag_plane-selected.ensures.bits c.input-places.ensures.value c.input-places.ensures.count c.requires.x_numbers c.requires.x_count c.args.to.now c.args.combiner c.args.notify.now c.requires.acts
