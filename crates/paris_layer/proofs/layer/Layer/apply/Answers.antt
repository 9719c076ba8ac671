use Rattle.std.proofs.Common.{◌∙◌}
use Rattle.paris_layer.proofs.AllSame.{applied_same, applied_kept, above}
use Rattle.paris_layer.proofs.layer.Layer.apply.Goals as goal

pub returns-then-zero-one : goal.returns-then-zero-one
returns-then-zero-one c = c.filled.ensures ∙ applied_same c.args.zero c.args.one c.len.result c.args.self.now c.if-zero-one.true c.len.ensures

pub returns-else-zero : goal.returns-else-zero
returns-else-zero c = applied_kept c.args.zero c.args.one c.args.self.now c.if-zero-one.false (above c.args.zero c.args.one c.if-zero-one.false c.if-zero.false)
