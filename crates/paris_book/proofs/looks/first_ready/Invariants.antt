-- None of the rows so far is ready, and the keys are marked whose origin is an unsettled one of them.
use Rattle.std.proofs.Common.{◌≡◌, take, map, None}
use Rattle.std.specs.List.{find, enumerate_from}
use Rattle.paris_book.specs.Entries.{machine_row}
use Rattle.paris_book.proofs.Among.{ready_among}
use Rattle.paris_book.proofs.Pending.{ArePending}
use Rattle.paris_book.proofs.looks.first_ready.Given as goal

abbrev pub invariant-loop-i : goal.invariant-loop-i
invariant-loop-i l = record {
  none : find (ready_among l.rows.rows) (enumerate_from 0 (take l.i (map machine_row l.rows.rows))) ≡ None;
  marks : ArePending l.pending l.rows.rows l.i;
}
