use Rattle.std.proofs.Common.{arith}
use Rattle.paris_depends.proofs.ReachSteps.{pushed-more}
use Rattle.paris_depends.proofs.reaches.add_writes.Goals as goal

pub key-key-requires-clause-few : goal.key-key-requires-clause-few
key-key-requires-clause-few g c =
    let so_far = c.loop-i.invariant.looks 64 (omega (arith, c.len-len.ensures.value)) in
    omega (arith, so_far, c.keys-i-end.ensures.few)

pub reach_from-reach-requires-clause-few : goal.reach_from-reach-requires-clause-few
reach_from-reach-requires-clause-few g c =
    let so_far = c.loop-i.invariant.looks 64 (omega (arith, c.len-len.ensures.value)) in
    omega (arith, so_far, c.keys-i-end.ensures.few, c.key-key.ensures.looks)

pub loop-i-preserved : goal.loop-i-preserved
loop-i-preserved g c = record {
  reaches = pushed-more _ _ _ _ _ c.loop-i.i c.key-key.result c.reach_from-reach.result c.loop-i.invariant.reaches c.requires.there c.key-key.ensures.value c.reach_from-reach.ensures.value c.in_ok-push.ensures.items;
  looks = λ b below. let so_far = c.loop-i.invariant.looks b below in let more = c.reach_from-reach.ensures.looks b below in omega (arith, so_far, more, c.key-key.ensures.looks);
  more = omega (arith, c.loop-i.invariant.more, c.reach_from-reach.ensures.more, c.key-key.ensures.looks);
}
