use Rattle.std.proofs.Common.{◌∙◌, sym}
use Rattle.paris_plain.proofs.Flags.{flags_past}
use Rattle.paris_plain.proofs.inputs.flags_are_bits.Goals as goal

pub returns-then-i-values : goal.returns-then-i-values
returns-then-i-values c = sym (c.loop-i.invariant ∙ flags_past c.args.keys.now c.args.values.now c.loop-i.i c.if-i-values.true)
