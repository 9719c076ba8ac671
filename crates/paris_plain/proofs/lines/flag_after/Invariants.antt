-- The numbers so far are those of the first processors.
use Rattle.std.proofs.Common.{◌≡◌}
use Rattle.paris_model.specs.Store.{bit, stored}
use Rattle.paris_model.specs.Frame.{at}
use Rattle.paris_model.specs.Lines.{stores_on_line, sum_overflows}
use Rattle.paris_plain.specs.Plain.{frame_of_seen}
use Rattle.paris_plain.proofs.lines.flag_after.Given as goal

abbrev pub invariant-loop-v : goal.invariant-loop-v
invariant-loop-v l = l.numbers.items ≡ stored l.v (stores_on_line (frame_of_seen l.inputs) l.i) (at (frame_of_seen l.inputs) l.key) 1 (λ v. bit (sum_overflows (frame_of_seen l.inputs) l.i v))
