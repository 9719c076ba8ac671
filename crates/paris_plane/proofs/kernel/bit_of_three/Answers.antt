use Rattle.std.proofs.Common.{◌∙◌, ap, arith}
use Rattle.paris_plane.specs.Bits.{word_bit}
use Rattle.paris_plane.proofs.Low.{low_bit}
use Rattle.paris_plane.proofs.kernel.bit_of_three.Goals as goal

pub returns : goal.returns
returns g c =
    low_bit c.word.result ∙ ap (λ w. word_bit w 0) c.word.ensures ∙ g.met.O.TripleOp.by_bit c.word_of.result c.word_of-2.result c.word_of-3.result 0
    ∙ ap (λ x. g.O.TripleOp.bit x (word_bit c.word_of-2.result 0) (word_bit c.word_of-3.result 0)) (c.word_of.ensures 0 (omega arith))
    ∙ ap (λ y. g.O.TripleOp.bit c.args.a y (word_bit c.word_of-3.result 0)) (c.word_of-2.ensures 0 (omega arith))
    ∙ ap (λ z. g.O.TripleOp.bit c.args.a c.args.b z) (c.word_of-3.ensures 0 (omega arith))
