use Rattle.std.proofs.Common.{arith}
use Rattle.paris_depends.proofs.reaches.reach_from.Goals as goal

pub look_around-readers-requires-clause-few : goal.look_around-readers-requires-clause-few
look_around-readers-requires-clause-few g c =
    let first = c.look_around-writers.ensures.looks 64 (omega (arith, c.len-len.ensures.value)) in
    omega (arith, first)
