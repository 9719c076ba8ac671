-- The rows of the places that were taken off had their turn, and the room has the ids of those that were run.
use Rattle.std.proofs.Common.{◌≡◌, ◌≤◌, length, take, drop}
use Rattle.paris_book.specs.RanIds.{turned_ids}
use Rattle.paris_book.specs.Rounds.{Advances}
use Rattle.paris_book.specs.Unsettled.{filled}
use Rattle.paris_book.specs.Wanted.{turned_all}
use Rattle.paris_book.proofs.Stopping.{HasTurned}
use Rattle.paris_book.proofs.loose.Loose.turn_all.Given as goal

abbrev pub invariant-loop-place : goal.invariant-loop-place
invariant-loop-place l = record {
  state : turned_all l.left.items l.self ≡ turned_all l.fn.places.items l.fn.self;
  advances : Advances l.ran l.fn.self l.self;
  filled : l.room ≡ filled l.fn.room (take l.ran (turned_ids l.fn.places.items l.fn.self));
  left : drop l.ran (turned_ids l.fn.places.items l.fn.self) ≡ turned_ids l.left.items l.self;
  some : l.ran ≤ length (turned_ids l.fn.places.items l.fn.self);
  turned : HasTurned l.fn.places.items l.left.items l.fn.self l.self;
}

abbrev pub decreases-loop-place : goal.decreases-loop-place
decreases-loop-place l = length l.left.items
