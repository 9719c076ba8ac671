use Rattle.std.proofs.Common.{◌≡◌, ◌+◌, ◌-◌, ◌≤◌, length, take}
use Rattle.std.specs.Io.KnownBytes.{Appends}
use Rattle.paris_session.specs.Progress.{said, sitting_at, open_line}
use Rattle.paris_session.proofs.run.Script.take_bytes.Given as goal

abbrev pub invariant-loop-at : goal.invariant-loop-at
invariant-loop-at g l =
    let before = l.fn.self in
    let done = take l.at l.bytes in
    record {
      within : l.at ≤ length l.bytes;
      session : l.self.session ≡ sitting_at before.session before.line.items done;
      line : l.self.line.items ≡ open_line before.line.items done;
      written : Appends (g.W.Write.contents l.fn.writer) (g.W.Write.contents l.writer) (said before.session before.line.items done);
      kept : l.tally ≡ l.fn.tally;
      count : l.self.session.hand.commands ≤ before.session.hand.commands + l.at;
    }

abbrev pub decreases-loop-at : goal.decreases-loop-at
decreases-loop-at g l = length l.bytes - l.at
