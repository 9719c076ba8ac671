-- What is true now, and what is shown of it.
use Rattle.std.specs.Prelude.{ℕ, Option, Some, None, Result, Ok, Err, if◌then◌else◌, map, take}
use Rattle.paris_names.specs.declared.faults.Fault.{Fault}
use Rattle.paris_names.specs.declared.faults.Fault.TheVariants.{NoField, NoRow}
use Rattle.paris_names.specs.declared.keys.Key.{Key}
use Rattle.paris_names.specs.declared.ids.Spot.{Spot}
use Rattle.paris_names.specs.declared.names.KeyName.{KeyName}
use Rattle.paris_board.specs.Board.{key_named, width_of}
use Rattle.paris_model.specs.Frame.{World}
use Rattle.paris_model.specs.Run.{run}
use Rattle.paris_model.specs.Recipe.{origin}
use Rattle.paris_field.specs.Fields.{FieldNumbers}
use Rattle.paris_edits.specs.Rows.{is_settled}
use Rattle.paris_events.specs.declared.events.Shown.{Shown}
use Rattle.paris_events.specs.declared.events.Shown.TheVariants.{Settled as ShownSettled, Pending}
use Rattle.paris_events.specs.State.{Row, State, start_world, row_plan, place_of_spot}

-- the world just before the row at a place, of running the program once from the input data
abbrev pub now : State → ℕ → World
now s place = run (start_world s.inputs) (map row_plan (take place s.rows))

-- the last row before a place that writes the key, or none, which is the start
abbrev pub origin_at : State → ℕ → Key → Option Row
origin_at s place k = origin row_plan k (take place s.rows)

-- what is shown where this row, or the start, is the origin, and this the value
abbrev pub shown_of : Option Row → FieldNumbers → Shown
shown_of None value = ShownSettled value
shown_of (Some r) value = if is_settled r.status then ShownSettled value else Pending r.id

-- what is shown of a key at a place: pending exactly where its origin is an unsettled row
abbrev pub show_at : State → ℕ → Key → Shown
show_at s place k = shown_of (origin_at s place k) (record { width = width_of s.board k; numbers = now s place k })

-- the answer to a look at a key
abbrev pub show_from : State → Key → Option ℕ → Result Shown Fault
show_from s k None = Err NoRow
show_from s k (Some place) = Ok (show_at s place k)

abbrev pub show_key : State → Spot → Option Key → Result Shown Fault
show_key s spot None = Err NoField
show_key s spot (Some k) = show_from s k (place_of_spot s spot)

abbrev pub show_reply : State → KeyName → Spot → Result Shown Fault
show_reply s name spot = show_key s spot (key_named s.board name)
