-- The rows of the ids so far are unsettled.
use Rattle.std.proofs.Common.{◌≡◌, take}
use Rattle.paris_program.specs.Program.{AreOwn}
use Rattle.paris_book.specs.Marks.{unsettled_by_ids, is_among, ids_in}
use Rattle.paris_book.proofs.marks.unsettle_all.Given as goal

abbrev pub invariant-loop-id : goal.invariant-loop-id
invariant-loop-id l = record {
  marked : l.rows.rows ≡ unsettled_by_ids l.number (ids_in (take l.id-index l.ids)) l.fn.rows.rows;
  next_id : l.rows.next_id ≡ l.fn.rows.next_id;
  own : AreOwn l.rows (is_among (ids_in l.ids));
}
