use Rattle.std.proofs.Common.{◌+◌, ◌*◌, get_or}
use Rattle.paris_field.proofs.HalfWords.{low_half_is, high_half_is}
use Rattle.paris_field.proofs.pairs.block_pairs.Goals as goal

pub returns-clause-low : goal.returns-clause-low
returns-clause-low c = λ i hi within.
    low_half_is (get_or c.paired_words-words.result i 0) c.args.xs.now (64 * c.args.block + i) c.requires.x_narrow (λ k hk. c.paired_words-words.ensures.low i k hi hk within)

pub returns-clause-high : goal.returns-clause-high
returns-clause-high c = λ i hi within.
    high_half_is (get_or c.paired_words-words.result i 0) c.args.ys.now (64 * c.args.block + i) (c.words_fit.ensures i) c.requires.y_narrow (λ k hk. c.paired_words-words.ensures.high i k hi hk within)
