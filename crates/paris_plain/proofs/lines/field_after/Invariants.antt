-- The numbers so far are those of the first processors.
use Rattle.std.proofs.Common.{◌≡◌}
use Rattle.paris_model.specs.Store.{stored}
use Rattle.paris_model.specs.Frame.{at}
use Rattle.paris_model.specs.Lines.{line_length, line_result, stores_on_line}
use Rattle.paris_plain.specs.Plain.{frame_of_seen}
use Rattle.paris_plain.proofs.lines.field_after.Given as goal

abbrev pub invariant-loop-v : goal.invariant-loop-v
invariant-loop-v l = l.numbers.items ≡ stored l.v (stores_on_line (frame_of_seen l.inputs) l.i) (at (frame_of_seen l.inputs) l.key) (line_length l.i) (line_result (frame_of_seen l.inputs) l.i)
