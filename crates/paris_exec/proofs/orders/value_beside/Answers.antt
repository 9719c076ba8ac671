use Rattle.std.proofs.Common.{◌∙◌, sym, arith, []}
use Rattle.paris_exec.proofs.Besides.{beside_past, beside_next}
use Rattle.paris_exec.proofs.orders.value_beside.Goals as goal

pub returns-then-i-values : goal.returns-then-i-values
returns-then-i-values c = sym (c.loop-i.invariant ∙ beside_past c.args.keys.now c.args.values.now c.args.key.now c.loop-i.i (omega arith))

pub loop-i-preserved : goal.loop-i-preserved
loop-i-preserved c = c.loop-i.invariant ∙ beside_next c.args.keys.now c.args.values.now c.args.key.now c.index-keys-i.result (record { width = 0; numbers = [] }) c.loop-i.i c.loop-i-test.true c.if-i-values.false c.index-keys-i.is (sym c.is_same.ensures.value ∙ c.if-is_same.false)
