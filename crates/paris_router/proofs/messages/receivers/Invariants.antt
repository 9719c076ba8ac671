-- The plane is that of the messages so far.
use Rattle.std.proofs.Common.{◌≡◌, take}
use Rattle.paris_router.specs.Mail.{receivers_of}
use Rattle.paris_router.proofs.messages.receivers.Given as goal

abbrev pub invariant-loop-message : goal.invariant-loop-message
invariant-loop-message l = l.plane ≡ receivers_of l.count (take l.message-index l.mail)
