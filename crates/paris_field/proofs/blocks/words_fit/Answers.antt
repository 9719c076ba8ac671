use Rattle.paris_field.proofs.blocks.words_fit.Goals as goal

pub returns : goal.returns
returns c = λ i. (c.type_inv.words i).fits
