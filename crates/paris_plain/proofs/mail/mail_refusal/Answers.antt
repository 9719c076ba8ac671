use Rattle.std.proofs.Common.{◌∙◌, refl}
use Rattle.paris_plain.proofs.mail.mail_refusal.Goals as goal

pub returns-in-Get : goal.returns-in-Get
returns-in-Get c = c.first_cause.ensures ∙ rw (c.in-Get.is, c.bad_sender.ensures.value) refl

pub returns-in_ok-mail-in-Send : goal.returns-in_ok-mail-in-Send
returns-in_ok-mail-in-Send c =
    c.first_cause-in-Send.ensures
    ∙ rw (c.in-Send.is, c.bad_sender-in-Send.ensures.value, c.collision-collision.ensures.value, c.as_slice.ensures.value, c.in_ok-mail-in-Send.ensures, c.vps.ensures.value) refl

pub returns-in-CombiningSend : goal.returns-in-CombiningSend
returns-in-CombiningSend c =
    c.first_cause-in-CombiningSend.ensures ∙ rw (c.in-CombiningSend.is, c.bad_sender-in-CombiningSend.ensures.value) refl
