use Rattle.std.proofs.Common.{◌+◌, ◌*◌, arith}
use Rattle.paris_scan.proofs.Carried.{same_number}
use Rattle.paris_scan.proofs.columns.repeated_planes.Goals as goal

pub returns-clause-long : goal.returns-clause-long
returns-clause-long c = λ j h. c.loop-k.invariant.long j (omega (arith, h, c.loop-k.invariant.count))

pub returns-clause-numbers : goal.returns-clause-numbers
returns-clause-numbers c = λ p n o hp hn ho.
    same_number c.loop-k.made.items c.args.planes.now (p * (c.args.count * (64 * c.args.words)) + (n * (64 * c.args.words) + o)) (p * (64 * c.args.words) + o) (omega (arith, c.loop-k.invariant.count, c.loop-k-test.false, c.loop-k.auto))
    (λ j h. c.loop-k.invariant.at j p n o (omega (arith, h, c.loop-k.invariant.count)) hp hn ho)
