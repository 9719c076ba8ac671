use Rattle.paris_plain.specs.Plain.{frame_of_seen}
use Rattle.paris_plain.proofs.Post.{mail_fits}
use Rattle.paris_plain.proofs.mail.mail_after.Goals as goal

pub combining_send_after-requires-clause-mail_fits : goal.combining_send_after-requires-clause-mail_fits
combining_send_after-requires-clause-mail_fits c =
    rw (c.as_slice-in-CombiningSend.ensures.value, c.in_ok-mail-in-CombiningSend.ensures) (mail_fits (frame_of_seen c.args.inputs.now) c.in-CombiningSend.addresses c.in-CombiningSend.from c.in-CombiningSend.length)

pub returns-in-Get : goal.returns-in-Get
returns-in-Get c = rw (c.in-Field.is, c.in-Get.is) (rw c.in-Field.is at c.got.ensures)

pub returns-in_ok-mail-in-Send : goal.returns-in_ok-mail-in-Send
returns-in_ok-mail-in-Send c =
    rw (c.in-Field.is, c.in-Send.is, ← c.in_ok-mail-in-Send.ensures, ← c.as_slice.ensures.value) c.send_after.ensures

pub returns-in_ok-mail-in-CombiningSend : goal.returns-in_ok-mail-in-CombiningSend
returns-in_ok-mail-in-CombiningSend c =
    rw (c.in-Field.is, c.in-CombiningSend.is, ← c.in_ok-mail-in-CombiningSend.ensures, ← c.as_slice-in-CombiningSend.ensures.value) c.combining_send_after.ensures
