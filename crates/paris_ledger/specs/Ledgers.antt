-- A ledger as clauses see it: a chapter of a history.
use Rattle.std.specs.Prelude.{◌==◌, ◌-◌, ℕ, List, [], ◌∷◌, ◌++◌, map, if◌then◌else◌, slice_get, Option, None}
use Rattle.paris_events.specs.State.{State}
use Rattle.paris_events.specs.Events.{after_all}
use Rattle.paris_events.specs.declared.events.Event.{Event}
use Rattle.paris_events.specs.declared.events.Reply.{Reply}
use Rattle.paris_records.specs.declared.records.Entry.{Entry}
use Rattle.paris_records.specs.History.{entry}

-- the state at which a chapter begins, its entries in order, and how many there may be
pub record Chapter : Type 0 where
  pub first : State
  pub history : List Entry
  pub limit : ℕ

abbrev pub chapter : State → List Entry → ℕ → Chapter
chapter first history limit = record { first = first; history = history; limit = limit }

-- the state after the events of a history, from a state on
abbrev pub state_from : State → List Entry → State
state_from s h = after_all s (map (λ (e : Entry). e.event) h)

-- the state that a chapter has come to
abbrev pub present : Chapter → State
present c = state_from c.first c.history

-- a chapter with one entry more
abbrev pub with_entry : Chapter → ℕ → Event → Reply → Chapter
with_entry c seat event reply = chapter c.first (c.history ++ entry seat event reply ∷ []) c.limit

-- the entry of a number, which counts from 1
abbrev pub entry_numbered : List Entry → ℕ → Option Entry
entry_numbered h number = if number == 0 then None else slice_get h (number - 1)
