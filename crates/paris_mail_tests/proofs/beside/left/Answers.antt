use Rattle.paris_mail_tests.proofs.beside.left.Goals as goal

pub mail_refusal-requires : goal.mail_refusal-requires
mail_refusal-requires g c = c.mail-mail.ensures c.in_ok-inputs.inputs.axes

pub mail_after-requires : goal.mail_after-requires
mail_after-requires g c = c.mail-mail.ensures c.in_ok-inputs.inputs.axes

pub mail_after-requires-in-Send : goal.mail_after-requires-in-Send
mail_after-requires-in-Send g c = c.mail-mail.ensures c.in_ok-inputs.inputs.axes
