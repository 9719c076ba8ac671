use Rattle.std.proofs.Common.{◌∙◌}
use Rattle.paris_layer.proofs.AllSame.{carry_plain, carry_full}
use Rattle.paris_layer.proofs.arithmetic.sum_with.Goals as goal

pub returns-then-bit-clause-carries : goal.returns-then-bit-clause-carries
returns-then-bit-clause-carries c = c.in_ok-next.ensures ∙ carry_full c.args.bit c.args.x.now c.args.y.now c.if-bit.true

pub returns-clause-carries : goal.returns-clause-carries
returns-clause-carries c = c.in_ok-next-2.ensures ∙ carry_plain c.args.bit c.args.x.now c.args.y.now c.if-bit.false
