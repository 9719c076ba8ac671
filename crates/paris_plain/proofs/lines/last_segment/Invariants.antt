-- No segment begins in what is past.
use Rattle.std.proofs.Common.{◌≡◌, false, drop}
use Rattle.std.specs.List.{list_any}
use Rattle.paris_model.specs.Lines.{begins_segment}
use Rattle.paris_plain.specs.Plain.{frame_of_seen}
use Rattle.paris_plain.proofs.lines.last_segment.Given as goal

abbrev pub invariant-loop-k : goal.invariant-loop-k
invariant-loop-k l = list_any (begins_segment (frame_of_seen l.inputs) l.segments) (drop l.k l.path) ≡ false
