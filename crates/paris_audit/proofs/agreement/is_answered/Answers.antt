use Rattle.paris_audit.proofs.Agreements.{answered}
use Rattle.paris_audit.proofs.agreement.is_answered.Goals as goal

pub returns-in-Ok-clause-reply : goal.returns-in-Ok-clause-reply
returns-in-Ok-clause-reply c =
    answered c.args.book.now c.in_ok-event.event c.in-Ok.reply c.args.entry.now c.is_same_reply.result c.in-Ok.ensures.reply c.in_ok-event.ensures c.is_same_reply.ensures
