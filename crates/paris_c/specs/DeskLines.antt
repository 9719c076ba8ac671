-- What a line is at a desk, and the text of a reply there.
use Rattle.std.specs.Prelude.{ℕ, List, false, Option, Some, None}
use Rattle.paris_names.specs.declared.faults.Fault.{Fault}
use Rattle.paris_names.specs.declared.faults.Fault.TheVariants.{Syntax}
use Rattle.paris_events.specs.declared.events.Event.{Event}
use Rattle.paris_events.specs.declared.events.Event.TheVariants as event
use Rattle.paris_events.specs.declared.events.Reply.{Reply}
use Rattle.paris_session.specs.Hands.{asked, empty_hand, told}
use Rattle.paris_session.specs.declared.asked.Asked.{Asked}
use Rattle.paris_session.specs.declared.asked.Asked.TheVariants as asks
use Rattle.paris_c.specs.declared.desk_lines.LineAsks.{LineAsks}
use Rattle.paris_c.specs.declared.desk_lines.LineAsks.TheVariants.{Call, Refused, NoEvent}

-- orders and results are no lines here: they have calls of their own
abbrev pub event_asks : Event → LineAsks
event_asks (event.Edit e) = Call (event.Edit e)
event_asks event.Take = NoEvent
event_asks (event.Bring task) = NoEvent
event_asks event.Release = Call event.Release
event_asks (event.Show key spot) = Call (event.Show key spot)
event_asks event.List = Call event.List

-- a line that isn't in the grammar is refused
abbrev pub fault_asks : Fault → LineAsks
fault_asks (Syntax column) = Refused (Syntax column)
fault_asks _ = NoEvent

abbrev pub asks_of : Asked → LineAsks
asks_of (asks.Call e) = event_asks e
asks_of (asks.Look key spot) = Call (event.Show key spot)
asks_of asks.Faults = NoEvent
asks_of asks.Settle = NoEvent
asks_of (asks.Chosen profile) = NoEvent
asks_of (asks.Refused fault) = fault_asks fault

abbrev pub asks_if : Option Asked → LineAsks
asks_if None = NoEvent
asks_if (Some a) = asks_of a

-- what a line is: it is read as one of a session that has taken no order and may choose no profile
abbrev pub line_asks : List ℕ → LineAsks
line_asks line = asks_if (asked false (empty_hand false) line)

-- the text of a reply, as such a session writes it
abbrev pub reply_text : Reply → List ℕ
reply_text reply = (told (empty_hand false) reply).1
