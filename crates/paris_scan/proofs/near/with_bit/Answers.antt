use Rattle.std.proofs.Common.{◌∙◌, sym}
use Rattle.paris_plane.specs.Words.{set_other, set_same}
use Rattle.paris_scan.proofs.near.with_bit.Goals as goal

pub returns-then-bit-clause-here : goal.returns-then-bit-clause-here
returns-then-bit-clause-here c = set_same c.args.word c.args.i c.requires.within ∙ sym c.if-bit.true

pub returns-then-bit-clause-others : goal.returns-then-bit-clause-others
returns-then-bit-clause-others c = λ j other. set_other c.args.word c.args.i j c.requires.within other
