-- The row by which a look sees its value.
use Rattle.std.specs.Prelude.{ℕ, Option, Some, None, Result, Ok, Err}
use Rattle.std.specs.Option.{option_map}
use Rattle.paris_names.specs.declared.faults.Fault.{Fault}
use Rattle.paris_names.specs.declared.faults.Fault.TheVariants.{NoField, NoRow}
use Rattle.paris_names.specs.declared.ids.RowId.{RowId}
use Rattle.paris_names.specs.declared.ids.Spot.{Spot}
use Rattle.paris_names.specs.declared.keys.Key.{Key}
use Rattle.paris_names.specs.declared.names.KeyName.{KeyName}
use Rattle.paris_board.specs.Board.{key_named}
use Rattle.paris_events.specs.State.{State, place_of_spot}
use Rattle.paris_events.specs.Show.{origin_at}

-- the last row before a place that writes the key, by its id; none is the start
abbrev pub origin_from : State → Key → Option ℕ → Result (Option RowId) Fault
origin_from s k None = Err NoRow
origin_from s k (Some place) = Ok (option_map (λ r. r.id) (origin_at s place k))

abbrev pub origin_key : State → Spot → Option Key → Result (Option RowId) Fault
origin_key s spot None = Err NoField
origin_key s spot (Some k) = origin_from s k (place_of_spot s spot)

abbrev pub origin_reply : State → KeyName → Spot → Result (Option RowId) Fault
origin_reply s name spot = origin_key s spot (key_named s.board name)
