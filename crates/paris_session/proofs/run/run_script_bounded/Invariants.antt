use Rattle.std.proofs.Common.{◌≡◌, ◌*◌, ◌≤◌, length}
use Rattle.paris_session.proofs.Reading.{Reading, asked}
use Rattle.paris_session.proofs.run.run_script_bounded.Given as goal

abbrev pub invariant-loop : goal.invariant-loop
invariant-loop g l = record {
  reading : Reading (g.R.Read.remaining l.fn.reader) (g.R.Read.remaining l.reader) (g.W.Write.contents l.fn.writer) (g.W.Write.contents l.writer) l.script.session l.script.line.items;
  marks : l.tally ≡ asked l.counter;
  count : l.script.session.hand.commands ≤ 4096 * l.counter;
  room : length l.room ≡ 4096;
}
