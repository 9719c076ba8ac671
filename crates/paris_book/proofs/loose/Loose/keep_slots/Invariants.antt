-- The slots so far were kept, and those that are left hold results that belong to the rows now.
use Rattle.std.specs.Vec.Iter.{into_iter_items}
use Rattle.paris_book.specs.Rounds.{Advances, HoldResults}
use Rattle.paris_book.proofs.loose.Loose.keep_slots.Given as goal

abbrev pub invariant-loop-slot : goal.invariant-loop-slot
invariant-loop-slot l = record {
  can_next : (goal.iterator-loop-slot).can_next l.slot-iterator;
  is_finite : (goal.iterator-loop-slot).is_finite l.slot-iterator;
  advances : Advances l.ran l.fn.self l.self;
  hold : HoldResults l.self (into_iter_items l.slot-iterator);
}
