use Rattle.std.proofs.Common.{◌*◌, arith}
use Rattle.paris_muldiv.proofs.Wholes.{low_of_whole}
use Rattle.paris_muldiv.proofs.numbers.UnsignedProductNumberOp.apply.Goals as goal

pub returns-clause-value : goal.returns-clause-value
returns-clause-value c =
    low_of_whole 128 c.args.bits c.whole_product-low.result.0 c.whole_product-low.result.1 (c.args.x * c.args.y) c.requires.narrow (omega arith) c.whole_product-low.ensures
