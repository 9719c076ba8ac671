use Rattle.paris_muldiv.proofs.Outcomes.{bit_put, bit_kept}
use Rattle.paris_muldiv.proofs.blocks.with_bit.Goals as goal

pub returns-clause-here : goal.returns-clause-here
returns-clause-here c = bit_put c.args.word c.args.i c.from.result c.args.bit c.requires.within c.requires.clear c.from.ensures

pub returns-clause-others : goal.returns-clause-others
returns-clause-others c = λ j other. bit_kept c.args.word c.args.i j c.from.result c.args.bit c.requires.within other c.from.ensures
