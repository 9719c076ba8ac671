-- What the value of a key at a place stands on: the unsettled rows that have to be run, or cut off, before it is settled.
use Rattle.std.specs.Prelude.{◌≡◌, ℕ, suc, List, [], ◌∷◌, ◌++◌, take, Bool, true, false, ◌&&◌, not, Option, Some, None, if◌then◌else◌, slice_get}
use Rattle.std.specs.List.{list_all, list_any}
use Rattle.paris_names.specs.declared.keys.Key.{Key}
use Rattle.paris_names.specs.declared.ids.Spot.{Spot}
use Rattle.paris_names.specs.declared.names.KeyName.{KeyName}
use Rattle.paris_names.specs.Keys.{has_key}
use Rattle.paris_board.specs.Board.{key_named}
use Rattle.paris_model.specs.Instructions.{reads, writes}
use Rattle.paris_edits.specs.Rows.{is_settled}
use Rattle.paris_events.specs.State.{Row, State, place_of_spot}
use Rattle.paris_events.specs.Show.{origin_at}
use Rattle.paris_events.specs.Orders.{is_firm}
use Rattle.paris_events.specs.CutOff.{cut_off}
use Rattle.paris_book.specs.Steps.{turned_at}

-- whether a row writes a key that is wanted behind it
abbrev pub is_wanted : (Key → Bool) → Row → Bool
is_wanted want r = list_any want (writes r.plan)

-- the keys that are wanted before a row: a wanted row has what it writes, and wants what it reads where it is unsettled
abbrev pub wants : (Key → Bool) → Row → Key → Bool
wants want r k =
    if is_wanted want r
    then (if not (is_settled r.status) && has_key (reads r.plan) k then true else (if has_key (writes r.plan) k then false else want k))
    else want k

-- the keys that are wanted before rows, where these are wanted behind them
abbrev pub wanted_before : (Key → Bool) → List Row → Key → Bool
wanted_before want [] = want
wanted_before want (r ∷ rs) = wants (wanted_before want rs) r

-- whether a row is wanted and unsettled
abbrev pub has_turn : (Key → Bool) → Row → Bool
has_turn want r = is_wanted want r && not (is_settled r.status)

-- the places of these among rows of which the first stands at a place, from the last row to the first
abbrev pub wanted_from : (Key → Bool) → ℕ → List Row → List ℕ
wanted_from want n [] = []
wanted_from want n (r ∷ rs) = wanted_from want (suc n) rs ++ (if has_turn (wanted_before want rs) r then n ∷ [] else [])

-- the places of the unsettled rows that the value of a key at a place stands on, from the last row to the first
abbrev pub stands_on : State → ℕ → Key → List ℕ
stands_on s place k = wanted_from (has_key (k ∷ [])) 0 (take place s.rows)

-- the state once the rows at these places had their turn, the last of the list first
abbrev pub turned_all : List ℕ → State → State
turned_all [] s = s
turned_all (place ∷ places) s = turned_at (turned_all places s) place

-- the state once the rows that a value stands on had their turn, with the rows that are cut off then
abbrev pub settled_before : State → ℕ → Key → State
settled_before s place k = cut_off (turned_all (stands_on s place k) s)

abbrev pub settled_from : State → Key → Option ℕ → State
settled_from s k None = s
settled_from s k (Some place) = settled_before s place k

abbrev pub settled_key : State → Spot → Option Key → State
settled_key s spot None = s
settled_key s spot (Some k) = settled_from s k (place_of_spot s spot)

-- the same of the value that a look shows, and where the look is refused the state as it was
abbrev pub settled_for : State → KeyName → Spot → State
settled_for s name spot = settled_key s spot (key_named s.board name)

-- the places of the unsettled rows that the value that a look shows stands on, from the last row to the first
abbrev pub places_from : State → Key → Option ℕ → List ℕ
places_from s k None = []
places_from s k (Some place) = stands_on s place k

abbrev pub places_of_key : State → Spot → Option Key → List ℕ
places_of_key s spot None = []
places_of_key s spot (Some k) = places_from s k (place_of_spot s spot)

abbrev pub wanted_places : State → KeyName → Spot → List ℕ
wanted_places s name spot = places_of_key s spot (key_named s.board name)

-- what a settled row reads has the start or settled rows as origins
abbrev pub SettledAreFirm : State → Type 0
SettledAreFirm s = (place : ℕ) (r : Row) → slice_get s.rows place ≡ Some r → is_settled r.status ≡ true → list_all (λ k. is_firm (origin_at s place k)) (reads r.plan) ≡ true
