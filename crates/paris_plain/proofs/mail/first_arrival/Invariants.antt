-- None of the messages so far arrives.
use Rattle.std.proofs.Common.{◌≡◌, drop}
use Rattle.paris_model.specs.Mail.{arrivals}
use Rattle.paris_plain.proofs.mail.first_arrival.Given as goal

abbrev pub invariant-loop-message : goal.invariant-loop-message
invariant-loop-message l = arrivals l.mail l.r ≡ arrivals (drop l.message-index l.mail) l.r
