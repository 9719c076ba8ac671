use Rattle.std.proofs.Common.{◌≡◌, ◌*◌, ◌≤◌, length}
use Rattle.std.specs.Io.KnownBytes.{Consumes}
use Rattle.paris_session.proofs.Reading.{asked}
use Rattle.paris_parts.proofs.reading.read_all.Given as goal

abbrev pub invariant-loop : goal.invariant-loop
invariant-loop g l = record {
  consumed : Consumes (g.R.Read.remaining l.fn.reader) (g.R.Read.remaining l.reader) l.script.items;
  marks : l.tally ≡ asked l.counter;
  few : length l.script.items ≤ 4096 * l.counter;
  room : length l.room ≡ 4096;
}
