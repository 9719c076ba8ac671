use Rattle.std.proofs.Common.{refl}
use Rattle.paris_session.proofs.run.write_reply.Goals as goal

pub returns-in-Err-clause-fault : goal.returns-in-Err-clause-fault
returns-in-Err-clause-fault g c = (refl, c.in-Err.ensures.failed)
