use Rattle.std.proofs.Common.{◌∙◌, sym}
use Rattle.paris_plain.proofs.Beside.{beside_past, beside_next}
use Rattle.paris_plain.proofs.inputs.list_beside.Goals as goal

pub returns-then-i-lists : goal.returns-then-i-lists
returns-then-i-lists c = sym (c.loop-i.invariant ∙ beside_past c.args.keys.now c.args.lists.now c.args.key.now c.loop-i.i c.if-i-lists.true)

pub loop-i-preserved : goal.loop-i-preserved
loop-i-preserved c =
    c.loop-i.invariant
    ∙ beside_next c.args.keys.now c.args.lists.now c.args.key.now c.index-keys-i.result c.loop-i.i c.loop-i-test.true c.if-i-lists.false c.index-keys-i.is (sym c.is_same.ensures.value ∙ c.if-is_same.false)
