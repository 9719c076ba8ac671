use Rattle.std.proofs.Common.{◌∙◌, ap, arith}
use Rattle.paris_plane.specs.Bits.{word_bit}
use Rattle.paris_field.proofs.Turn.{word_from}
use Rattle.paris_field.proofs.blocks.put_words.Goals as goal

pub returns-clause-bits : goal.returns-clause-bits
returns-clause-bits c =
    λ k hk inside i hi within.
    c.put_rows.ensures.bits k hk inside i hi within
    ∙ ap (λ w. word_bit w k) (c.words_from-words.ensures i hi (omega arith)) ∙ word_from _ c.args.from k hk
