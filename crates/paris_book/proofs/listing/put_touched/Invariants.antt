-- The room has the ids of the touched rows so far.
use Rattle.std.proofs.Common.{◌≡◌, ◌≤◌, map, take, length}
use Rattle.paris_book.specs.Entries.{machine_row}
use Rattle.paris_book.specs.TouchedIds.{touched_ids}
use Rattle.paris_book.specs.Unsettled.{filled}
use Rattle.paris_book.proofs.listing.put_touched.Given as goal

abbrev pub invariant-loop-place : goal.invariant-loop-place
invariant-loop-place l = record {
  count : l.count ≡ length (touched_ids l.since (take l.place (map machine_row l.rows.rows)));
  few : l.count ≤ l.place;
  filled : l.room ≡ filled l.fn.room (touched_ids l.since (take l.place (map machine_row l.rows.rows)));
}
