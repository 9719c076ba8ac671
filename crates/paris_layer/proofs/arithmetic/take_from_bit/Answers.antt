use Rattle.std.proofs.Common.{◌∙◌, ◌&&◌, ◌||◌, ap, length, sym}
use Rattle.std.proofs.lemmas.Simd.{length-zip2}
use Rattle.paris_layer.proofs.AllSame.{borrow_from_none, borrow_from_all}
use Rattle.paris_layer.proofs.arithmetic.take_from_bit.Goals as goal

pub returns-then-bit-clause-long : goal.returns-then-bit-clause-long
returns-then-bit-clause-long c = ap length c.in_ok-put.ensures.ok ∙ length-zip2 (λ a b. a && b) c.args.borrow.now c.args.y.now (sym c.requires)

pub returns-then-bit-clause-borrows : goal.returns-then-bit-clause-borrows
returns-then-bit-clause-borrows c = c.in_ok-put.ensures.ok ∙ borrow_from_all c.args.bit c.args.y.now c.args.borrow.now c.if-bit.true

pub returns-clause-long : goal.returns-clause-long
returns-clause-long c = ap length c.in_ok-put-2.ensures.ok ∙ length-zip2 (λ a b. a || b) c.args.borrow.now c.args.y.now (sym c.requires)

pub returns-clause-borrows : goal.returns-clause-borrows
returns-clause-borrows c = c.in_ok-put-2.ensures.ok ∙ borrow_from_none c.args.bit c.args.y.now c.args.borrow.now c.if-bit.false
