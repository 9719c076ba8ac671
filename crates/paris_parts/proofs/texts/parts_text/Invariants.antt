use Rattle.std.proofs.Common.{◌≡◌}
use Rattle.paris_parts.specs.Texts.{parts_text}
use Rattle.paris_parts.proofs.texts.parts_text.Given as goal

abbrev pub invariant-loop-number : goal.invariant-loop-number
invariant-loop-number g l = l.text.items ≡ parts_text l.jobs l.number
