use Rattle.std.proofs.Common.{◌∙◌, ap, not, map}
use Rattle.paris_layer.proofs.AllSame.{borrow_with_none, borrow_with_all}
use Rattle.paris_layer.proofs.arithmetic.difference_with.Goals as goal

pub returns-then-bit-clause-borrows : goal.returns-then-bit-clause-borrows
returns-then-bit-clause-borrows c = c.not_in.ensures ∙ ap (map not) c.in_ok-next.ensures ∙ borrow_with_all c.args.bit c.args.x.now c.args.y.now c.if-bit.true

pub returns-clause-borrows : goal.returns-clause-borrows
returns-clause-borrows c = c.in_ok-next-2.ensures ∙ borrow_with_none c.args.bit c.args.x.now c.args.y.now c.if-bit.false
