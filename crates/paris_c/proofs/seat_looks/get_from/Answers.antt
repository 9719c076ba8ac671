use Rattle.std.proofs.Common.{sym, ◌∙◌}
use Rattle.paris_c.proofs.FaultNumbers.{look_fits}
use Rattle.paris_c.proofs.seat_looks.get_from.Goals as goal

pub returns-in-Err-clause-memory : goal.returns-in-Err-clause-memory
returns-in-Err-clause-memory c = λ memory. absurd (look_fits c.args.book.now c.in-Some.key c.spot_at.result c.in-Err.fault c.in-Err.ensures.refused (sym c.of_fault.ensures.number ∙ memory))
