-- A schedule, one move after another, and the events that its moves stand for.
use Rattle.std.proofs.Common.{◌≡◌, List, [], ◌∷◌, ◌++◌, Option, Some, None, refl, sym, ap, ◌∙◌}
use Rattle.paris_events.specs.State.{State}
use Rattle.paris_events.specs.Events.{after_all}
use Rattle.paris_events.specs.declared.events.Event.{Event}
use Rattle.paris_events.specs.declared.moves.Move.{Move}
use Rattle.paris_events.specs.Plays.{Play, event_of, after_event, reply_to_move, after_move, replies_to_moves, after_moves, events_here, events_of}
use Rattle.paris_book.proofs.Runs.{after-append}

pub move_replies-append : (p : Play) (xs ys : List Move) → replies_to_moves p (xs ++ ys) ≡ replies_to_moves p xs ++ replies_to_moves (after_moves p xs) ys
move_replies-append p [] ys = refl
move_replies-append p (x ∷ xs) ys = ap (λ rs. reply_to_move p x ∷ rs) (move_replies-append (after_move p x) xs ys)

pub after_moves-append : (p : Play) (xs ys : List Move) → after_moves p (xs ++ ys) ≡ after_moves (after_moves p xs) ys
after_moves-append p [] ys = refl
after_moves-append p (x ∷ xs) ys = after_moves-append (after_move p x) xs ys

one_event : (s : State) (o : Option Event) → after_event s o ≡ after_all s (events_here o)
one_event s None = refl
one_event s (Some e) = refl

-- a schedule's state is that after the events that its moves stand for
pub moves_are_events : (p : Play) (ms : List Move) → (after_moves p ms).state ≡ after_all p.state (events_of p ms)
moves_are_events p [] = refl
moves_are_events p (m ∷ ms) =
    moves_are_events (after_move p m) ms
    ∙ ap (λ (s : State). after_all s (events_of (after_move p m) ms)) (one_event p.state (event_of p m))
    ∙ sym (after-append p.state (events_here (event_of p m)) (events_of (after_move p m) ms))
