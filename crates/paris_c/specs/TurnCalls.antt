-- What a call runs of a session, and what it tells of unsettled rows, where the handle is open.
use Rattle.std.specs.Prelude.{◌≡◌, ◌<◌, ◌+◌, ℕ, true, List, length, take, Option, Some, None, IsSome, Result, Ok, Err}
use Rattle.paris_names.specs.declared.faults.Fault.{Fault}
use Rattle.paris_names.specs.declared.ids.RowId.{RowId}
use Rattle.paris_names.specs.declared.names.KeyName.{KeyName}
use Rattle.paris_names.specs.Faults.{number_of}
use Rattle.paris_events.specs.Events.{has_value}
use Rattle.paris_events.specs.Orders.{take_reply}
use Rattle.paris_events.specs.Settling.{due, unsettled_rows}
use Rattle.paris_events.specs.Show.{show_reply}
use Rattle.paris_book.specs.Origins.{origin_reply}
use Rattle.paris_book.specs.RanIds.{ran_ids, ran_ids_for}
use Rattle.paris_book.specs.Stopped.{IsStoppedFor}
use Rattle.paris_book.specs.TouchedIds.{touched_ids}
use Rattle.paris_book.specs.Unsettled.{filled, unsettled_ids}
use Rattle.paris_book.specs.Wanted.{settled_for}
use Rattle.paris_session.specs.Transcript.{with_book}
use Rattle.paris_session.specs.Turns.{after_runs}
use Rattle.paris_c.specs.declared.contents.Contents.{Contents}
use Rattle.paris_c.specs.Calls.{spot_of}

-- so many orders were run
abbrev pub HasRunOrders : Option Contents → Option Contents → ℕ → Type 0
HasRunOrders (Some old) (Some new) ran = new ≡ record old { session = after_runs ran old.session }
HasRunOrders _ _ ran = ⊥

-- where fewer were run than were asked for, no row is ready any more
abbrev pub HasRunAll : Option Contents → ℕ → ℕ → Type 0
HasRunAll None most ran = ⊥
HasRunAll (Some new) most ran = ran < most → take_reply new.session.state ≡ None

-- a row is ready
abbrev pub HasReady : Option Contents → Type 0
HasReady None = ⊥
HasReady (Some contents) = IsSome (take_reply contents.session.state)

-- the room has as many ids of the rows that so many orders were run of as there is room for
abbrev pub HasRanIds : Option Contents → ℕ → List ℕ → List ℕ → Type 0
HasRanIds None ran before after = ⊥
HasRanIds (Some old) ran before after = after ≡ filled before (ran_ids ran old.session.state)

-- the same of the first so many of those that a value is settled by
abbrev pub HasRanFor : Option Contents → Option KeyName → ℕ → ℕ → List ℕ → List ℕ → Type 0
HasRanFor (Some old) (Some key) place ran before after = after ≡ filled before (take ran (ran_ids_for old.session.state key (spot_of place)))
HasRanFor _ _ place ran before after = ⊥

-- the room has as many ids of unsettled rows as there is room for
abbrev pub HasUnsettled : Option Contents → List ℕ → List ℕ → Type 0
HasUnsettled None before after = ⊥
HasUnsettled (Some contents) before after = after ≡ filled before (unsettled_ids contents.session.state.rows)

-- so many rows are unsettled
abbrev pub CountsUnsettled : Option Contents → ℕ → Type 0
CountsUnsettled None count = ⊥
CountsUnsettled (Some contents) count = count ≡ unsettled_rows contents.session.state.rows

-- the room has as many ids of rows that an edit behind the first so many touched as there is room for
abbrev pub HasTouched : Option Contents → ℕ → List ℕ → List ℕ → Type 0
HasTouched None since before after = ⊥
HasTouched (Some contents) since before after = after ≡ filled before (touched_ids since contents.session.state.rows)

-- these rows are so many
abbrev pub CountsTouched : Option Contents → ℕ → ℕ → Type 0
CountsTouched None since count = ⊥
CountsTouched (Some contents) since count = count ≡ length (touched_ids since contents.session.state.rows)

-- so many edits were accepted
abbrev pub HasEdits : Option Contents → ℕ → Type 0
HasEdits None edits = ⊥
HasEdits (Some contents) edits = edits ≡ contents.session.state.edits

-- the origin of a key at a place, where the handle is open and the word is a key
abbrev pub origin_looked : Option Contents → Option KeyName → ℕ → Option (Result (Option RowId) Fault)
origin_looked None key place = None
origin_looked (Some contents) None place = None
origin_looked (Some contents) (Some key) place = Some (origin_reply contents.session.state key (spot_of place))

-- a row by its id, and the start as 0, which is no row's id
abbrev pub origin_number : Option RowId → ℕ
origin_number None = 0
origin_number (Some id) = id.0

-- this is the origin
abbrev pub HasOrigin : Option (Result (Option RowId) Fault) → ℕ → Type 0
HasOrigin (Some (Ok origin)) row = row ≡ origin_number origin
HasOrigin _ row = ⊥

-- the fault by which an origin isn't told has this number
abbrev pub HasOriginFault : Option (Result (Option RowId) Fault) → ℕ → Type 0
HasOriginFault (Some (Err fault)) number = number ≡ number_of fault
HasOriginFault _ number = ⊥

-- what a value stands on was settled, by so many orders, and the value is shown: of the session the book alone is another
abbrev pub IsSettledFor : Option Contents → Option Contents → Option KeyName → ℕ → ℕ → Type 0
IsSettledFor (Some old) (Some new) (Some key) place ran =
    (new ≡ record old { session = with_book old.session (settled_for old.session.state key (spot_of place)) old.session.hand.tray })
    × (has_value (show_reply new.session.state key (spot_of place)) ≡ true)
    × (due new.session.state + ran ≡ due old.session.state)
IsSettledFor _ _ _ place ran = ⊥

-- memory was refused once so many orders were run, and the value isn't shown: the book alone is another, as such a settle leaves it
abbrev pub IsPartlySettledFor : Option Contents → Option Contents → Option KeyName → ℕ → ℕ → Type 0
IsPartlySettledFor (Some old) (Some new) (Some key) place ran =
    (new ≡ record old { session = with_book old.session new.session.state old.session.hand.tray })
    × IsStoppedFor key (spot_of place) ran old.session.state new.session.state
IsPartlySettledFor _ _ _ place ran = ⊥
