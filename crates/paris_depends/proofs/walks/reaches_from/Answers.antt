use Rattle.std.proofs.Common.{arith}
use Rattle.paris_depends.proofs.walks.reaches_from.Goals as goal

pub reach_from-reach-requires-clause-few : goal.reach_from-reach-requires-clause-few
reach_from-reach-requires-clause-few g c =
    let so_far = c.loop-i.invariant.looks 64 (omega (arith, c.len-len.ensures.value)) in
    omega (arith, so_far)
