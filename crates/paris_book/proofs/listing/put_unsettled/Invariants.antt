-- What is left of the room takes what is left of the ids.
use Rattle.std.proofs.Common.{◌≡◌, ◌++◌, map, take, drop, length}
use Rattle.paris_book.specs.Entries.{machine_row}
use Rattle.paris_book.specs.Unsettled.{filled, unsettled_ids}
use Rattle.paris_book.proofs.listing.put_unsettled.Given as goal

abbrev pub invariant-loop-i : goal.invariant-loop-i
invariant-loop-i l = record {
  len : length l.room ≡ length l.fn.room;
  filled : filled l.fn.room (unsettled_ids (map machine_row l.rows.rows)) ≡ take l.i l.room ++ filled (drop l.i l.room) (unsettled_ids (drop l.from (map machine_row l.rows.rows)));
}
