-- An order for one value: of the rows that it stands on, the first that is ready.
use Rattle.std.specs.Prelude.{ℕ, List, Bool, ◌&&◌, ◌==◌, Option}
use Rattle.std.specs.List.{list_any, find, enumerate_from}
use Rattle.std.specs.Option.{option_map}
use Rattle.paris_names.specs.declared.ids.Spot.{Spot}
use Rattle.paris_names.specs.declared.names.KeyName.{KeyName}
use Rattle.paris_exec.specs.Tasks.{Task}
use Rattle.paris_events.specs.State.{Row, State}
use Rattle.paris_events.specs.Orders.{is_ready, order_of}
use Rattle.paris_book.specs.Wanted.{wanted_places}

-- whether a row stands at one of these places, and is ready
abbrev pub is_ready_among : State → List ℕ → ℕ → Row → Bool
is_ready_among s places place r = list_any (λ p. p == place) places && is_ready s place r

-- the first such row in program order, with its place
abbrev pub first_ready_among : State → List ℕ → Option (ℕ × Row)
first_ready_among s places = find (λ e. is_ready_among s places e.0 e.1) (enumerate_from 0 s.rows)

-- the order for the first ready row that the value that a look shows stands on
abbrev pub order_for : State → KeyName → Spot → Option Task
order_for s name spot = option_map (order_of s) (first_ready_among s (wanted_places s name spot))
