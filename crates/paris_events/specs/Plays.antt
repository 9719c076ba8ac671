-- A schedule played on a book: events, results of the orders that it gave, brought in any order and any number of times, and orders that are lost.
use Rattle.std.specs.Prelude.{ℕ, Bool, false, ◌-◌, ◌==◌, List, [], ◌∷◌, ◌++◌, Option, Some, None, if◌then◌else◌, is_some, slice_get, slice_set}
use Rattle.std.specs.Option.{option_map}
use Rattle.paris_exec.specs.Tasks.{Task}
use Rattle.paris_events.specs.State.{State}
use Rattle.paris_events.specs.Orders.{take_reply}
use Rattle.paris_events.specs.Events.{reply_to, after, grows}
use Rattle.paris_events.specs.declared.events.Event.{Event}
use Rattle.paris_events.specs.declared.events.Event.TheVariants.{Edit, Take, Bring as BringDone, Release, Show, List as ListRows}
use Rattle.paris_events.specs.declared.moves.Move.{Move}
use Rattle.paris_events.specs.declared.moves.Move.TheVariants.{Event as EventMove, Bring as BringNumber, Lose}
use Rattle.paris_events.specs.declared.moves.MoveReply.{MoveReply}
use Rattle.paris_events.specs.declared.moves.MoveReply.TheVariants.{Reply as EventReply, Lost, NoOrder}

-- a book, and the orders that were given so far, in the order of their numbers; a lost one is none
pub record Play : Type 0 where
  pub state : State
  pub orders : List (Option Task)

abbrev pub play_of : State → List (Option Task) → Play
play_of s orders = record { state = s; orders = orders }

-- a schedule begins with no orders
abbrev pub start_of : State → Play
start_of s = play_of s []

abbrev pub or_none : Option (Option Task) → Option Task
or_none None = None
or_none (Some order) = order

-- the order of a number, if it was given and isn't lost; the first has number 1
abbrev pub order_numbered : List (Option Task) → ℕ → Option Task
order_numbered orders n = if n == 0 then None else or_none (slice_get orders (n - 1))

-- the event that a move stands for, if there is one
abbrev pub event_of : Play → Move → Option Event
event_of p (EventMove e) = Some e
event_of p (BringNumber n) = option_map BringDone (order_numbered p.orders n)
event_of p (Lose n) = None

abbrev pub reply_by : State → Option Event → MoveReply
reply_by s None = NoOrder
reply_by s (Some e) = EventReply (reply_to s e)

abbrev pub reply_to_loss : Option Task → MoveReply
reply_to_loss None = NoOrder
reply_to_loss (Some order) = Lost

-- the reply to a move
abbrev pub reply_to_move : Play → Move → MoveReply
reply_to_move p (EventMove e) = reply_by p.state (event_of p (EventMove e))
reply_to_move p (BringNumber n) = reply_by p.state (event_of p (BringNumber n))
reply_to_move p (Lose n) = reply_to_loss (order_numbered p.orders n)

abbrev pub after_event : State → Option Event → State
after_event s None = s
after_event s (Some e) = after s e

abbrev pub with_order : List (Option Task) → Option Task → List (Option Task)
with_order orders None = orders
with_order orders (Some order) = orders ++ Some order ∷ []

-- the orders after an event: one that a take gives is kept
abbrev pub orders_after : Play → Event → List (Option Task)
orders_after p (Edit e) = p.orders
orders_after p Take = with_order p.orders (take_reply p.state)
orders_after p (BringDone t) = p.orders
orders_after p Release = p.orders
orders_after p (Show name spot) = p.orders
orders_after p ListRows = p.orders

-- the orders without the one of a number, if there is one; no other number changes
abbrev pub lost_at : List (Option Task) → ℕ → Option Task → List (Option Task)
lost_at orders n None = orders
lost_at orders n (Some order) = slice_set orders (n - 1) None

abbrev pub orders_after_move : Play → Move → List (Option Task)
orders_after_move p (EventMove e) = orders_after p e
orders_after_move p (BringNumber n) = p.orders
orders_after_move p (Lose n) = lost_at p.orders n (order_numbered p.orders n)

-- the book and its orders after a move
abbrev pub after_move : Play → Move → Play
after_move p m = play_of (after_event p.state (event_of p m)) (orders_after_move p m)

-- whether a move takes memory: an event that does, and an order that is there to be executed; a loss takes none
abbrev pub move_grows : Play → Move → Bool
move_grows p (EventMove e) = grows p.state e
move_grows p (BringNumber n) = is_some (order_numbered p.orders n)
move_grows p (Lose n) = false

-- the replies to a list of moves, and what they leave
abbrev pub replies_to_moves : Play → List Move → List MoveReply
replies_to_moves p [] = []
replies_to_moves p (m ∷ ms) = reply_to_move p m ∷ replies_to_moves (after_move p m) ms

abbrev pub after_moves : Play → List Move → Play
after_moves p [] = p
after_moves p (m ∷ ms) = after_moves (after_move p m) ms

abbrev pub events_here : Option Event → List Event
events_here None = []
events_here (Some e) = e ∷ []

-- the events that a list of moves stands for
abbrev pub events_of : Play → List Move → List Event
events_of p [] = []
events_of p (m ∷ ms) = events_here (event_of p m) ++ events_of (after_move p m) ms
