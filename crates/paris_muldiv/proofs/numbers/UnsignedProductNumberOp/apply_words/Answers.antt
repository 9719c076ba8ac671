use Rattle.std.proofs.Common.{◌*◌, arith}
use Rattle.paris_muldiv.proofs.Wholes.{low_of_whole}
use Rattle.paris_muldiv.proofs.numbers.UnsignedProductNumberOp.apply_words.Goals as goal

pub returns-clause-value : goal.returns-clause-value
returns-clause-value c =
    low_of_whole 64 c.args.bits c.word_product-low.result.0 c.word_product-low.result.1 (c.args.x * c.args.y) c.requires.narrow (omega arith) c.word_product-low.ensures
