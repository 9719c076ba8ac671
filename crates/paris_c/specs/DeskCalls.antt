-- What a call does to a desk and to a seat, which are none where their handles are closed.
use Rattle.std.specs.Prelude.{◌≡◌, ◌≢◌, ◌≤◌, ◌+◌, ◌-◌, ◌^◌, ℕ, false, List, [], length, Option, Some, None, IsSome, Result, Ok}
use Rattle.std.specs.Arc.{arc_value}
use Rattle.paris_names.specs.declared.faults.Fault.{Fault}
use Rattle.paris_names.specs.declared.names.KeyName.{KeyName}
use Rattle.paris_edits.specs.declared.edits.Edit.TheVariants.{Input}
use Rattle.paris_exec.specs.Tasks.{Task}
use Rattle.paris_events.specs.State.{State}
use Rattle.paris_events.specs.Events.{reply_to}
use Rattle.paris_events.specs.Orders.{take_reply}
use Rattle.paris_events.specs.Results.{verdict_of}
use Rattle.paris_events.specs.Show.{show_reply}
use Rattle.paris_events.specs.declared.events.Event.{Event}
use Rattle.paris_events.specs.declared.events.Event.TheVariants as event
use Rattle.paris_events.specs.declared.events.Shown.{Shown}
use Rattle.paris_records.specs.declared.records.Entry.{Entry}
use Rattle.paris_ledger.specs.Ledgers.{chapter, entry_numbered, present, with_entry}
use Rattle.paris_book.specs.OrdersFor.{order_for}
use Rattle.paris_book.specs.Unsettled.{filled}
use Rattle.paris_session.specs.Replies.{refusal_text}
use Rattle.paris_session.specs.Transcript.{start, with_book}
use Rattle.paris_c.specs.Calls.{spot_of}
use Rattle.paris_c.specs.DeskLines.{line_asks, reply_text}
use Rattle.paris_c.specs.OrderCalls.{TellsEdition, is_executed, task_in, verdict_number}
use Rattle.paris_c.specs.declared.contents.Contents.{Contents}
use Rattle.paris_c.specs.declared.desk_lines.LineAsks.{LineAsks}
use Rattle.paris_c.specs.declared.desk_lines.LineAsks.TheVariants.{Call, Refused, NoEvent}
use Rattle.paris_c.specs.declared.order_state.OrderState.{OrderState}
use Rattle.paris_c.specs.declared.seating.DeskContents.{DeskContents}
use Rattle.paris_c.specs.declared.seating.SeatContents.{SeatContents}

-- a desk was opened: its history begins, empty, at the state of a session
abbrev pub IsOpened : Option Contents → Option DeskContents → ℕ → ℕ → Type 0
IsOpened (Some session) (Some desk) name limit =
    (desk.name ≡ name) × (desk.ledger ≡ chapter session.session.state [] limit) × (desk.seats ≡ 0)
IsOpened _ _ name limit = ⊥

-- a seat sat down: it has the next number and no reply, and looks at the book as it is
abbrev pub IsSeated : Option DeskContents → Option DeskContents → Option SeatContents → ℕ → Type 0
IsSeated (Some desk) (Some new) (Some seat) number =
    (new ≡ record desk { seats = desk.seats + 1 })
    × (number ≡ desk.seats)
    × (seat.desk ≡ desk.name) × (seat.number ≡ number) × (seat.front ≡ length desk.ledger.history)
    × (arc_value seat.still ≡ present desk.ledger) × (seat.reply.items ≡ [])
IsSeated _ _ _ number = ⊥

-- as many seats sat down as can be counted
abbrev pub IsSpent : Option DeskContents → Type 0
IsSpent None = ⊥
IsSpent (Some desk) = desk.seats ≡ 2 ^ 64 - 1

-- the seat is of a desk of another name
abbrev pub IsStrange : Option DeskContents → Option SeatContents → Type 0
IsStrange (Some desk) (Some seat) = seat.desk ≢ desk.name
IsStrange _ _ = ⊥

-- the history has as many entries as it may have
abbrev pub IsHistoryFull : Option DeskContents → Type 0
IsHistoryFull None = ⊥
IsHistoryFull (Some desk) = desk.ledger.limit ≤ length desk.ledger.history

-- an event of a seat was recorded: the history's next entry has the seat's number, the event and the machine's reply, and this is the entry's
-- number. Nothing else of the desk is another
abbrev pub IsRecorded : DeskContents → DeskContents → SeatContents → Event → ℕ → Type 0
IsRecorded desk new seat e number =
    (seat.desk ≡ desk.name)
    × (new ≡ record desk { ledger = with_entry desk.ledger seat.number e (reply_to (present desk.ledger) e) })
    × (number ≡ length desk.ledger.history + 1)

-- a line that isn't in the grammar was answered: the seat keeps the text of the fault, and no entry, 0, has the line
abbrev pub IsLineRefused : SeatContents → SeatContents → Fault → ℕ → Type 0
IsLineRefused seat told fault number = (number ≡ 0) × (told ≡ record seat { reply = told.reply }) × (told.reply.items ≡ refusal_text fault)

-- a line was answered: its event was recorded, or it isn't in the grammar. The seat keeps the text of the reply, and knows the entry
abbrev pub IsLineAnswered : DeskContents → DeskContents → SeatContents → SeatContents → LineAsks → ℕ → Type 0
IsLineAnswered desk new seat told (Call e) number =
    IsRecorded desk new seat e number
    × (told ≡ record seat { front = number; reply = told.reply })
    × (told.reply.items ≡ reply_text (reply_to (present desk.ledger) e))
IsLineAnswered desk new seat told (Refused fault) number =
    (new ≡ desk) × IsLineRefused seat told fault number
IsLineAnswered desk new seat told NoEvent number = ⊥

abbrev pub IsDeskAnswered : Option DeskContents → Option DeskContents → Option SeatContents → Option SeatContents → List ℕ → ℕ → Type 0
IsDeskAnswered (Some desk) (Some new) (Some seat) (Some told) line number = IsLineAnswered desk new seat told (line_asks line) number
IsDeskAnswered _ _ _ _ line number = ⊥

-- a seat gave a key numbers: it answered the line that gives them
abbrev pub IsDeskSet : Option DeskContents → Option DeskContents → Option SeatContents → Option SeatContents → Option KeyName → ℕ → List ℕ → ℕ → Type 0
IsDeskSet (Some desk) (Some new) (Some seat) (Some told) (Some key) from numbers number =
    IsLineAnswered desk new seat told (Call (event.Edit (Input key from numbers))) number
IsDeskSet _ _ _ _ _ from numbers number = ⊥

-- so many bytes has the reply that a seat keeps
abbrev pub CountsSeatReply : Option SeatContents → ℕ → Type 0
CountsSeatReply None count = ⊥
CountsSeatReply (Some seat) count = count ≡ length seat.reply.items

-- a seat took an order: it is the one for the first ready row, and isn't executed
abbrev pub IsTakenAt : Option DeskContents → Option DeskContents → Option SeatContents → Option SeatContents → Option OrderState → ℕ → Type 0
IsTakenAt (Some desk) (Some new) (Some seat) (Some told) (Some order) number =
    (task_in order ≡ take_reply (present desk.ledger))
    × (is_executed order ≡ false)
    × IsRecorded desk new seat event.Take number
    × (told ≡ record seat { front = number })
IsTakenAt _ _ _ _ _ number = ⊥

-- no row is ready
abbrev pub HasNoneReadyAt : Option DeskContents → Type 0
HasNoneReadyAt None = ⊥
HasNoneReadyAt (Some desk) = take_reply (present desk.ledger) ≡ None

-- a row is ready
abbrev pub HasReadyAt : Option DeskContents → Type 0
HasReadyAt None = ⊥
HasReadyAt (Some desk) = IsSome (take_reply (present desk.ledger))

-- a seat brought the result of a task
abbrev pub IsBroughtAt : Option DeskContents → Option DeskContents → Option SeatContents → Option SeatContents → Option Task → ℕ → Type 0
IsBroughtAt (Some desk) (Some new) (Some seat) (Some told) (Some task) number =
    IsRecorded desk new seat (event.Bring task) number × (told ≡ record seat { front = number })
IsBroughtAt _ _ _ _ _ number = ⊥

-- the verdict on the result of a task has this number
abbrev pub HasVerdictAt : Option DeskContents → Option Task → ℕ → Type 0
HasVerdictAt (Some desk) (Some task) number = number ≡ verdict_number (verdict_of (present desk.ledger) task)
HasVerdictAt _ _ number = ⊥

-- where the row has another edition than a task, it is this
abbrev pub HasEditionAt : Option DeskContents → Option Task → ℕ → Type 0
HasEditionAt (Some desk) (Some task) edition = TellsEdition (verdict_of (present desk.ledger) task) edition
HasEditionAt _ _ edition = ⊥

-- a seat looks at the book as it is, and knows the history that led to it
abbrev pub IsLooked : Option DeskContents → Option SeatContents → Option SeatContents → Type 0
IsLooked (Some desk) (Some seat) (Some new) =
    (seat.desk ≡ desk.name)
    × (new ≡ record seat { front = length desk.ledger.history; still = new.still })
    × (arc_value new.still ≡ present desk.ledger)
IsLooked _ _ _ = ⊥

-- what `show` answers in a state to a word and a place, where the word is a key
abbrev pub state_looked : State → Option KeyName → ℕ → Option (Result Shown Fault)
state_looked s None place = None
state_looked s (Some key) place = Some (show_reply s key (spot_of place))

-- the same of the book that a seat looks at
abbrev pub seat_looked : Option SeatContents → Option KeyName → ℕ → Option (Result Shown Fault)
seat_looked None key place = None
seat_looked (Some seat) key place = state_looked (arc_value seat.still) key place

-- a look is answered by no fault
abbrev pub IsNoRefusal : Option (Result Shown Fault) → Type 0
IsNoRefusal (Some (Ok shown)) = Unit {0}
IsNoRefusal _ = ⊥

-- the order for the first ready row of those that a value stands on in a state, where the word is a key
abbrev pub state_order_for : State → Option KeyName → ℕ → Option Task
state_order_for s None place = None
state_order_for s (Some key) place = order_for s key (spot_of place)

-- the same in the book that a seat looks at
abbrev pub seat_order_for : Option SeatContents → Option KeyName → ℕ → Option Task
seat_order_for None key place = None
seat_order_for (Some seat) key place = state_order_for (arc_value seat.still) key place

-- an order is of a task, and isn't executed
abbrev pub IsOrderFor : Option Task → Option OrderState → Type 0
IsOrderFor (Some task) (Some order) = (task_in order ≡ Some task) × (is_executed order ≡ false)
IsOrderFor _ _ = ⊥

-- the room has as much of the reply that a seat keeps as there is room for
abbrev pub IsSeatReply : Option SeatContents → List ℕ → List ℕ → Type 0
IsSeatReply None before after = ⊥
IsSeatReply (Some seat) before after = after ≡ filled before seat.reply.items

-- a seat knows so many entries
abbrev pub HasFront : Option SeatContents → ℕ → Type 0
HasFront None front = ⊥
HasFront (Some seat) front = front ≡ seat.front

-- an event by the number of its kind
abbrev pub kind_number : Event → ℕ
kind_number (event.Edit e) = 1
kind_number event.Take = 2
kind_number (event.Bring task) = 3
kind_number event.Release = 4
kind_number (event.Show key spot) = 5
kind_number event.List = 6

-- an entry is of this seat, and of an event of this kind. The room has as much of the text of its reply as there is room for, and the count is
-- that of the whole text
abbrev pub TellsEntry : Option Entry → ℕ → ℕ → List ℕ → List ℕ → ℕ → Type 0
TellsEntry None seat kind before after count = ⊥
TellsEntry (Some e) seat kind before after count =
    (seat ≡ e.seat) × (kind ≡ kind_number e.event) × (after ≡ filled before (reply_text e.reply)) × (count ≡ length (reply_text e.reply))

abbrev pub HasEntry : Option DeskContents → ℕ → ℕ → ℕ → List ℕ → List ℕ → ℕ → Type 0
HasEntry None number seat kind before after count = ⊥
HasEntry (Some desk) number seat kind before after count = TellsEntry (entry_numbered desk.ledger.history number) seat kind before after count

-- no entry has this number
abbrev pub HasNoEntry : Option DeskContents → ℕ → Type 0
HasNoEntry None number = ⊥
HasNoEntry (Some desk) number = entry_numbered desk.ledger.history number ≡ None

-- the history begins, empty, at the present state, where it had so many entries
abbrev pub IsCut : Option DeskContents → Option DeskContents → ℕ → Type 0
IsCut (Some desk) (Some new) entries =
    (new ≡ record desk { ledger = chapter (present desk.ledger) [] desk.ledger.limit }) × (entries ≡ length desk.ledger.history)
IsCut _ _ entries = ⊥

-- a session was opened with the desk's book, and with no order and no reply
abbrev pub IsDeskSnapshot : Option DeskContents → Option Contents → Type 0
IsDeskSnapshot (Some desk) (Some new) = (new.session ≡ with_book start (present desk.ledger) []) × (new.reply.items ≡ [])
IsDeskSnapshot _ _ = ⊥

-- a session was opened with the book that a seat looks at, and with no order and no reply
abbrev pub IsSeatSnapshot : Option SeatContents → Option Contents → Type 0
IsSeatSnapshot (Some seat) (Some new) = (new.session ≡ with_book start (arc_value seat.still) []) × (new.reply.items ≡ [])
IsSeatSnapshot _ _ = ⊥
