use Rattle.std.proofs.Common.{arith}
use Rattle.paris_depends.specs.Reaches.{moved_past}
use Rattle.paris_depends.proofs.ReachSteps.{partly-more}
use Rattle.paris_depends.proofs.reaches.move_past.Goals as goal

pub loop-i-preserved : goal.loop-i-preserved
loop-i-preserved g c = record {
  reaches = partly-more (moved_past c.args.index.now.rows c.args.place) c.args.reaches.now.items c.loop-i.reaches.items c.loop-i.i c.index.result.now c.moved_past.result c.loop-i.invariant.reaches (omega arith) c.index.ensures c.moved_past.ensures.value;
  looks = omega (arith, c.moved_past.ensures.looks, c.loop-i.invariant.looks);
  more = omega (arith, c.moved_past.ensures.more, c.loop-i.invariant.more);
}
