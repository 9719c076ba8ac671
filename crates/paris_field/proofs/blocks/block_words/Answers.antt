use Rattle.std.proofs.Common.{ℕ, ◌+◌, ◌*◌, ◌∙◌, ap, get_or}
use Rattle.std.proofs.lemmas.List.{take_all}
use Rattle.paris_field.specs.Numbers.{number_at}
use Rattle.paris_field.proofs.Halves.{word_is}
use Rattle.paris_field.proofs.blocks.block_words.Goals as goal

pub returns : goal.returns
returns c = λ i hi within.
    let v : ℕ = 64 * c.args.block + i in
    word_is (get_or c.low_words-words.result i 0) c.args.layers.now v (c.words_fit.ensures i) (λ k hk. c.low_words-words.ensures i k hi hk within)
    ∙ ap (λ ps. number_at ps v) (take_all 64 c.args.layers.now c.requires.narrow)
