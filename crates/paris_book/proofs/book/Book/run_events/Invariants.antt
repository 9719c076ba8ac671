use Rattle.std.proofs.Common.{◌≡◌, ◌≤◌, length, take, drop}
use Rattle.std.specs.Prelude.{vec_capacity}
use Rattle.std.specs.Vec.Iter.{into_iter_items}
use Rattle.paris_events.specs.Events.{replies_to, after_all}
use Rattle.paris_book.proofs.book.Book.run_events.Given as goal

abbrev pub invariant-loop-event : goal.invariant-loop-event
invariant-loop-event l =
    (goal.iterator-loop-event).can_next l.event-iterator ×
    (goal.iterator-loop-event).is_finite l.event-iterator ×
    (into_iter_items l.event-iterator ≡ drop (length l.replies.items) l.fn.events.items) ×
    (l.replies.items ≡ replies_to l.fn.self (take (length l.replies.items) l.fn.events.items)) ×
    (l.self ≡ after_all l.fn.self (take (length l.replies.items) l.fn.events.items)) ×
    (length l.fn.events.items ≤ vec_capacity l.replies)
