-- The slots so far hold orders that their rows would give now.
use Rattle.paris_book.specs.Rounds.{Advances, HoldOrders}
use Rattle.paris_book.proofs.loose.Loose.orders_of.Given as goal

abbrev pub invariant-loop-row : goal.invariant-loop-row
invariant-loop-row l = record {
  advances : Advances 0 l.fn.self l.self;
  hold : HoldOrders l.self l.slots.items;
}
