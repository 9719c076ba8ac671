use Rattle.std.proofs.Common.{arith}
use Rattle.paris_depends.proofs.Places.{same_length}
use Rattle.paris_depends.proofs.ReachSteps.{reader_left}
use Rattle.paris_depends.proofs.reaches.moved_past.Goals as goal

pub moved-requires-clause-there : goal.moved-requires-clause-there
moved-requires-clause-there g c =
    let long = same_length c.args.program.now.rows c.args.index.now.rows c.requires.of in
    reader_left c.args.index.now.rows c.args.place c.args.reach.now c.requires.known (omega (arith, long))
