use Rattle.std.proofs.Common.{◌∙◌, ap, arith}
use Rattle.paris_plane.specs.Bits.{word_bit}
use Rattle.paris_plane.proofs.Low.{low_bit}
use Rattle.paris_plane.proofs.kernel.bit_of_two.Goals as goal

pub returns : goal.returns
returns g c =
    low_bit c.word.result ∙ ap (λ w. word_bit w 0) c.word.ensures ∙ g.met.O.WordOp.by_bit c.word_of.result c.word_of-2.result 0
    ∙ ap (λ x. g.O.WordOp.bit x (word_bit c.word_of-2.result 0)) (c.word_of.ensures 0 (omega arith))
    ∙ ap (λ y. g.O.WordOp.bit c.args.a y) (c.word_of-2.ensures 0 (omega arith))
