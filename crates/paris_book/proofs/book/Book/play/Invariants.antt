use Rattle.std.proofs.Common.{◌≡◌, ◌≤◌, length, take, drop}
use Rattle.std.specs.Prelude.{vec_capacity}
use Rattle.std.specs.Vec.Iter.{into_iter_items}
use Rattle.paris_events.specs.Plays.{play_of, start_of, replies_to_moves, after_moves}
use Rattle.paris_book.proofs.book.Book.play.Given as goal

abbrev pub invariant-loop-next : goal.invariant-loop-next
invariant-loop-next l =
    (goal.iterator-loop-next).can_next l.next-iterator ×
    (goal.iterator-loop-next).is_finite l.next-iterator ×
    (into_iter_items l.next-iterator ≡ drop (length l.replies.items) l.fn.moves.items) ×
    (l.replies.items ≡ replies_to_moves (start_of l.fn.self) (take (length l.replies.items) l.fn.moves.items)) ×
    (play_of l.self l.orders.items ≡ after_moves (start_of l.fn.self) (take (length l.replies.items) l.fn.moves.items)) ×
    (length l.fn.moves.items ≤ vec_capacity l.replies)
