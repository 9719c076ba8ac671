-- What was written, and what the lines that are left say, is the transcript.
use Rattle.std.proofs.Common.{◌≡◌, ◌++◌, ◌≤◌, length, drop}
use Rattle.paris_session.specs.Transcript.{start, lines, replies}
use Rattle.paris_session.proofs.whole.transcript.Given as goal

abbrev pub invariant-loop-line : goal.invariant-loop-line
invariant-loop-line l =
    (goal.iterator-loop-line).can_next l.line-iterator
    × (goal.iterator-loop-line).is_finite l.line-iterator
    × (l.text.items ++ replies l.session (drop (length l.yielded) (lines l.script)) ≡ replies start (lines l.script))
    × (l.session.hand.commands ≤ length l.yielded)
