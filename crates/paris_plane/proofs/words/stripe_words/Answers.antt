use Rattle.std.proofs.Common.{◌∙◌, ap, get_or}
use Rattle.std.proofs.lemmas.Simd.{get_or-replicate}
use Rattle.paris_plane.specs.Bits.{word_bit}
use Rattle.paris_plane.proofs.Stripes.{near_any}
use Rattle.paris_plane.proofs.words.stripe_words.Goals as goal

pub returns-then-k-lt6-clause-words : goal.returns-then-k-lt6-clause-words
returns-then-k-lt6-clause-words c =
    let w = c.stripe_word.result in
    λ i j below h.
    ap (λ l. word_bit (get_or l i 0) j) c.in_ok-made.ensures
    ∙ ap (λ x. word_bit x j) (get_or-replicate c.args.count i w 0 below)
    ∙ near_any w 0 i j c.args.k c.if-k-lt6.true (c.stripe_word.ensures j h)
