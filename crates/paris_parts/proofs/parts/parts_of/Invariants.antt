-- The parts that ended, and what is made of the lines that are left, are the parts of the script.
use Rattle.std.proofs.Common.{◌≡◌, ◌++◌, [], length, drop}
use Rattle.paris_session.specs.Transcript.{lines}
use Rattle.paris_parts.specs.Parts.{cut}
use Rattle.paris_parts.proofs.parts.parts_of.Given as goal

abbrev pub invariant-loop-line : goal.invariant-loop-line
invariant-loop-line l =
    (goal.iterator-loop-line).can_next l.line-iterator
    × (goal.iterator-loop-line).is_finite l.line-iterator
    × (l.all.items ++ cut l.begun (drop (length l.yielded) (lines l.script)) ≡ cut [] (lines l.script))
