use Rattle.std.proofs.Common.{◌∙◌}
use Rattle.paris_layer.proofs.AllSame.{applied_same, applied_kept, applied_turned}
use Rattle.paris_layer.proofs.operations.applied.Goals as goal

pub returns-then-zero-one : goal.returns-then-zero-one
returns-then-zero-one c = c.filled.ensures ∙ applied_same c.args.zero c.args.one c.len.result c.args.plane.now c.if-zero-one.true c.len.ensures

pub returns-then-one : goal.returns-then-one
returns-then-one c = c.from_plane.ensures ∙ c.in_ok-copy.ensures ∙ applied_kept c.args.zero c.args.one c.args.plane.now c.if-zero-one.false c.if-one.true

pub returns : goal.returns
returns c = c.from_plane-2.ensures ∙ c.in_ok-made.ensures ∙ applied_turned c.args.zero c.args.one c.args.plane.now c.if-zero-one.false c.if-one.false
