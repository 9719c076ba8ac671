use Rattle.std.proofs.Common.{arith}
use Rattle.paris_geometry.proofs.Products.{product_more, product_small, product_fits}
use Rattle.paris_geometry.proofs.shape.processor_count.Goals as goal

pub overflow_mul-count : goal.overflow_mul-count
overflow_mul-count c =
    rw c.from-count.ensures (omega (arith, product_fits c.args.lengths.now c.loop-length.length-index c.loop-length.count c.requires.powers c.requires.few c.loop-length-test.true c.loop-length.invariant.1))

pub loop-length-preserved : goal.loop-length-preserved
loop-length-preserved c =
    rw c.from-count.ensures (
      product_more c.args.lengths.now c.loop-length.length-index c.loop-length.count c.loop-length-test.true c.loop-length.invariant.0,
      product_small c.args.lengths.now c.loop-length.length-index c.loop-length.count c.requires.powers c.loop-length-test.true c.loop-length.invariant.1,
    )
