-- What was written, and what the lines that are left say, is what all lines say.
use Rattle.std.proofs.Common.{◌≡◌, ◌++◌, ◌≤◌, [], drop, map}
use Rattle.paris_events.specs.Settling.{all_settled}
use Rattle.paris_session.specs.Transcript.{start, with_book, replies, after_lines}
use Rattle.paris_parts.proofs.last.play_last.Given as goal

abbrev pub invariant-loop-line : goal.invariant-loop-line
invariant-loop-line g l =
    let all = map (λ line. line.items) l.lines in
    let first = with_book start (all_settled l.fn.book) [] in
    let left = drop l.line-index all in
    record {
      text : l.text.items ++ replies l.session left ≡ replies first all;
      session : after_lines l.session left ≡ after_lines first all;
      count : l.session.hand.commands ≤ l.line-index;
    }
