-- Histories: which are legal, and the state that they leave.
use Rattle.std.specs.Prelude.{◌≡◌, ℕ, List, [], ◌∷◌, map}
use Rattle.paris_names.specs.declared.profiles.Profile.{Profile}
use Rattle.paris_events.specs.State.{State, empty_state_of}
use Rattle.paris_events.specs.Events.{reply_to, after, after_all}
use Rattle.paris_events.specs.declared.events.Event.{Event}
use Rattle.paris_events.specs.declared.events.Reply.{Reply}
use Rattle.paris_records.specs.declared.records.Entry.{Entry}
use Rattle.paris_records.specs.declared.records.Receipt.{Receipt}

abbrev pub entry : ℕ → Event → Reply → Entry
entry seat event reply = record { seat = seat; event = event; reply = reply }

abbrev pub receipt : ℕ → ℕ → Event → Reply → Receipt
receipt seat number event reply = record { seat = seat; number = number; event = event; reply = reply }

-- each reply is the machine's in the state after the entries before it, from a state on
abbrev pub LegalFrom : State → List Entry → Type 0
LegalFrom s [] = Unit {0}
LegalFrom s (e ∷ es) = (e.reply ≡ reply_to s e.event) × LegalFrom (after s e.event) es

-- a history that one user of an empty book of a profile could have
abbrev pub Legal : Profile → List Entry → Type 0
Legal p h = LegalFrom (empty_state_of p 0) h

-- the state after the events of a history, from the empty book of a profile on
abbrev pub state_of : Profile → List Entry → State
state_of p h = after_all (empty_state_of p 0) (map (λ (e : Entry). e.event) h)
