use Rattle.std.proofs.Common.{ap, arith}
use Rattle.std.proofs.lemmas.Bool.Decides.{nat_tests}
use Rattle.paris_records.specs.Agreement.{calls_of}
use Rattle.paris_audit.proofs.Agreements.{turn}
use Rattle.paris_audit.proofs.agreement.calls_of.Goals as goal
use Rattle.paris_audit.proofs.agreement.calls_of.Goals.{then-entry-seat, else-entry-seat}

pub loop-entry-preserved : goal.loop-entry-preserved
loop-entry-preserved c =
    let t = ap (calls_of c.args.seat) (turn c.loop-entry.entry-index c.args.entries.now c.entry-item.result c.loop-entry-test.true c.entry-item.is) in
    elim c.if-entry-seat.branch [ then-entry-seat w ↦ grind (arith, nat_tests, t) | else-entry-seat w ↦ grind (arith, nat_tests, t) ]
