use Rattle.paris_field.proofs.Turn.{upper_word, lower_word}
use Rattle.paris_field.proofs.transpose.exchange_words.Goals as goal

pub returns-clause-upper : goal.returns-clause-upper
returns-clause-upper g c = λ i h. upper_word c.args.upper c.args.lower g.row.S c.args.mask i c.requires.shift.0 c.requires.mask h

pub returns-clause-lower : goal.returns-clause-lower
returns-clause-lower g c = λ i h. lower_word c.args.upper c.args.lower g.row.S c.args.mask i c.requires.mask h
