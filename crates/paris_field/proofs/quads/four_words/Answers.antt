use Rattle.std.proofs.Common.{◌≡◌, ℕ, ◌+◌, ◌*◌, ◌∙◌, [], ◌∷◌, List, Bool, ap, arith, false, get_or}
use Rattle.paris_plane.specs.Bits.{word_bit}
use Rattle.paris_field.proofs.Spread.{each_of_four}
use Rattle.paris_field.proofs.quads.four_words.Goals as goal

pub returns-clause-bits : goal.returns-clause-bits
returns-clause-bits c =
    λ q i hq hi.
    let words : List ℕ = c.word-first.result ∷ c.word-second.result ∷ c.word-third.result ∷ c.word-fourth.result ∷ [] in
    let bit : ℕ → Bool = λ v. get_or c.args.layer.now v false in
    each_of_four (λ q. word_bit (get_or words q 0) i ≡ get_or c.args.layer.now (256 * c.args.quad + 64 * q + i) false)
    (c.word-first.ensures i hi (omega arith) ∙ ap bit (omega arith))
    (c.word-second.ensures i hi (omega arith) ∙ ap bit (omega arith))
    (c.word-third.ensures i hi (omega arith) ∙ ap bit (omega arith))
    (c.word-fourth.ensures i hi (omega arith) ∙ ap bit (omega arith)) q hq
