-- The pass of cut-off by recursion over the rows, with the world before each row and the keys whose origin is the start or settled.
use Rattle.std.specs.Prelude.{◌≡◌, ℕ, zero, suc, List, [], ◌∷◌, Bool, true, false, ◌&&◌, not, if◌then◌else◌}
use Rattle.std.specs.List.{list_all}
use Rattle.paris_names.specs.declared.keys.Key.{Key}
use Rattle.paris_names.specs.Keys.{has_key}
use Rattle.paris_model.specs.Frame.{World}
use Rattle.paris_model.specs.Instructions.{reads, writes, one}
use Rattle.paris_edits.specs.Rows.{is_settled}
use Rattle.paris_events.specs.State.{Row, State, start_world}
use Rattle.paris_events.specs.Settling.{is_same, settled_row}

-- whether each key's origin is the start or settled, just after a row
unfoldable pub firm_after : (Key → Bool) → Row → Key → Bool
firm_after h r k = if has_key (writes r.plan) k then is_settled r.status else h k

-- at the start of the program every origin is the start
abbrev pub from_start : Key → Bool
from_start k = true

-- whether a row is unsettled, its origins are the start or settled, and its last kept result is of its present work
abbrev pub is_cut_in : World → (Key → Bool) → Row → Bool
is_cut_in w h r = not (is_settled r.status) && (list_all h (reads r.plan) && is_same w r)

abbrev pub cut_row : World → (Key → Bool) → Row → Row
cut_row w h r = if is_cut_in w h r then settled_row r else r

-- one pass in program order
abbrev pub cut : World → (Key → Bool) → List Row → List Row
cut w h [] = []
cut w h (r ∷ rs) = cut_row w h r ∷ cut (one r.plan w) (firm_after h (cut_row w h r)) rs

-- no row can be cut off
abbrev pub Rests : World → (Key → Bool) → List Row → Type 0
Rests w h [] = Unit {0}
Rests w h (r ∷ rs) = (is_cut_in w h r ≡ false) × Rests (one r.plan w) (firm_after h r) rs

abbrev pub AtRest : State → Type 0
AtRest s = Rests (start_world s.inputs) from_start s.rows

-- the world before the row at a place
abbrev pub world_at : World → List Row → ℕ → World
world_at w [] k = w
world_at w (r ∷ rs) zero = w
world_at w (r ∷ rs) (suc k) = world_at (one r.plan w) rs k
