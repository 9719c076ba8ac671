-- The rows of the ids so far may be changed.
use Rattle.std.proofs.Common.{◌≡◌, take}
use Rattle.paris_program.specs.Program.{AreOwn, KeepsOwn}
use Rattle.paris_book.specs.Marks.{is_among, ids_in}
use Rattle.paris_book.proofs.program_rows.Rows.own_all.Given as goal

abbrev pub invariant-loop-id : goal.invariant-loop-id
invariant-loop-id l = record {
  rows : l.self.rows ≡ l.fn.self.rows;
  next_id : l.self.next_id ≡ l.fn.self.next_id;
  kept : KeepsOwn l.fn.self l.self;
  own : AreOwn l.self (is_among (ids_in (take l.id-index l.ids)));
}
