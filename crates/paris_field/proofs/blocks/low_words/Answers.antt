use Rattle.std.proofs.Common.{◌∙◌}
use Rattle.paris_field.proofs.blocks.low_words.Goals as goal

pub returns : goal.returns
returns c = λ i k hi hk below. c.transpose64.ensures i k hi hk ∙ c.rows_of-rows.ensures k i hk hi below
