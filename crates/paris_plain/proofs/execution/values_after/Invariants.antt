-- The values so far are those at the first keys.
use Rattle.std.proofs.Common.{◌≡◌, map, take}
use Rattle.paris_model.specs.Instructions.{after_in}
use Rattle.paris_plain.specs.Plain.{frame_of_seen}
use Rattle.paris_plain.proofs.execution.values_after.Given as goal

abbrev pub invariant-loop-key : goal.invariant-loop-key
invariant-loop-key l = l.values.items ≡ map (after_in (frame_of_seen l.inputs) l.action) (take l.key-index l.writes)
