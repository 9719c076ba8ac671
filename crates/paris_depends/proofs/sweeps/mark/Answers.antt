use Rattle.paris_depends.specs.Sweeps.{marked}
use Rattle.paris_depends.proofs.Marks.{marked-more}
use Rattle.paris_depends.proofs.sweeps.mark.Goals as goal

pub loop-key-preserved : goal.loop-key-preserved
loop-key-preserved c = marked-more c.args.keys.now c.loop-key.key-index c.key-item.result c.args.hit (marked c.loop-key.changed) (marked c.mark_one.new.changed) _ c.loop-key-test.true c.key-item.is c.mark_one.ensures c.loop-key.invariant
