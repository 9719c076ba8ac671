use Rattle.paris_c.proofs.Numbers.{partly_is_neither}
use Rattle.paris_c.proofs.contents.Contents.answer.Goals as goal

pub returns-in-Ok-clause-answered : goal.returns-in-Ok-clause-answered
returns-in-Ok-clause-answered c = λ ok. c.in-Ok.ensures.ok

pub returns-in-Err-Partly-clause-kept : goal.returns-in-Err-Partly-clause-kept
returns-in-Err-Partly-clause-kept c = λ h. partly_is_neither h
