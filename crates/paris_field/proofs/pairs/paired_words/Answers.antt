use Rattle.std.proofs.Common.{◌+◌, ◌∙◌, arith}
use Rattle.paris_field.proofs.pairs.paired_words.Goals as goal

pub returns-clause-low : goal.returns-clause-low
returns-clause-low c = λ i k hi hk below. c.transpose64.ensures i k hi (omega arith) ∙ c.paired_rows-rows.ensures.low k i hk hi below

pub returns-clause-high : goal.returns-clause-high
returns-clause-high c = λ i k hi hk below. c.transpose64.ensures i (32 + k) hi (omega arith) ∙ c.paired_rows-rows.ensures.high k i hk hi below
