-- The messages are those of the senders below p.
use Rattle.std.proofs.Common.{◌≡◌}
use Rattle.std.specs.Prelude.{slice_index}
use Rattle.paris_model.specs.Mail.{messages}
use Rattle.paris_field.specs.Numbers.{has}
use Rattle.paris_router.proofs.messages.messages.Given as goal

abbrev pub invariant-loop-p : goal.invariant-loop-p
invariant-loop-p l = l.mail.items ≡ messages l.p (has l.selected) (slice_index l.addresses) (slice_index l.numbers)
