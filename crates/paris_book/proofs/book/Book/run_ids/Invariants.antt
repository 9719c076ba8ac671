-- So many orders were run, and the room has the ids of their rows.
use Rattle.std.proofs.Common.{◌≡◌, length}
use Rattle.paris_events.specs.Settling.{ran_orders}
use Rattle.paris_book.specs.RanIds.{ran_ids}
use Rattle.paris_book.specs.Unsettled.{filled}
use Rattle.paris_book.proofs.book.Book.run_ids.Given as goal

abbrev pub invariant-loop-ran : goal.invariant-loop-ran
invariant-loop-ran l = record {
  state : l.self ≡ ran_orders l.ran l.fn.self;
  filled : l.room ≡ filled l.fn.room (ran_ids l.ran l.fn.self);
  count : length (ran_ids l.ran l.fn.self) ≡ l.ran;
}
