-- The rows that orders are run of, by their ids.
use Rattle.std.specs.Prelude.{ℕ, zero, suc, List, [], ◌∷◌, ◌++◌, Option, Some, None}
use Rattle.paris_names.specs.declared.ids.Spot.{Spot}
use Rattle.paris_names.specs.declared.keys.Key.{Key}
use Rattle.paris_names.specs.declared.names.KeyName.{KeyName}
use Rattle.paris_board.specs.Board.{key_named}
use Rattle.paris_exec.specs.Tasks.{Task}
use Rattle.paris_events.specs.Orders.{take_reply}
use Rattle.paris_events.specs.Settling.{ran_orders}
use Rattle.paris_events.specs.State.{State, place_of_spot}
use Rattle.paris_book.specs.Steps.{turn_order}
use Rattle.paris_book.specs.Wanted.{stands_on, turned_all}

-- the id of the row of an order, if there is one
abbrev pub id_ordered : Option Task → List ℕ
id_ordered None = []
id_ordered (Some t) = t.id.0 ∷ []

-- the ids of the rows that so many orders are run of, one after another
abbrev pub ran_ids : ℕ → State → List ℕ
ran_ids zero s = []
ran_ids (suc n) s = ran_ids n s ++ id_ordered (take_reply (ran_orders n s))

-- the ids of the rows at these places that are run when they have their turn, the last of the list first
abbrev pub turned_ids : List ℕ → State → List ℕ
turned_ids [] s = []
turned_ids (place ∷ places) s = turned_ids places s ++ id_ordered (turn_order (turned_all places s) place)

-- the ids of the rows that are run where a value is settled with what it stands on
abbrev pub ids_from : State → Key → Option ℕ → List ℕ
ids_from s k None = []
ids_from s k (Some place) = turned_ids (stands_on s place k) s

abbrev pub ids_of_key : State → Spot → Option Key → List ℕ
ids_of_key s spot None = []
ids_of_key s spot (Some k) = ids_from s k (place_of_spot s spot)

-- the same of the value that a look shows
abbrev pub ran_ids_for : State → KeyName → Spot → List ℕ
ran_ids_for s name spot = ids_of_key s spot (key_named s.board name)
