use Rattle.std.proofs.Common.{arith}
use Rattle.paris_model.proofs.Stores.{put_below}
use Rattle.paris_plain.proofs.bits.put_bits.Goals as goal

pub overflow_add-result : goal.overflow_add-result
overflow_add-result c =
    rw (c.low_bits.ensures.value, c.low_bits-2.ensures.value) (omega (arith, put_below c.args.old c.args.x c.args.length 128 (omega arith) (omega arith)))
