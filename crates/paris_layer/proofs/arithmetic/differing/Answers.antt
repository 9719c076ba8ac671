use Rattle.std.proofs.Common.{◌∙◌, ap, not, map}
use Rattle.paris_layer.proofs.AllSame.{sum_plain, sum_turned}
use Rattle.paris_layer.proofs.arithmetic.differing.Goals as goal

pub returns-then-turned : goal.returns-then-turned
returns-then-turned c = c.not_in.ensures ∙ ap (map not) c.in_ok-made.ensures ∙ sum_turned c.args.turned c.args.x.now c.args.y.now c.if-turned.true

pub returns : goal.returns
returns c = c.in_ok-made.ensures ∙ sum_plain c.args.turned c.args.x.now c.args.y.now c.if-turned.false
