-- The unsettled rows by their ids, in a room that has places for some of them.
use Rattle.std.specs.Prelude.{ℕ, List, [], ◌∷◌, ◌++◌, length, take, drop, if◌then◌else◌}
use Rattle.paris_edits.specs.Rows.{is_settled}
use Rattle.paris_events.specs.State.{Row}

-- the ids of the unsettled rows, in program order
abbrev pub unsettled_ids : List Row → List ℕ
unsettled_ids [] = []
unsettled_ids (r ∷ rs) = if is_settled r.status then unsettled_ids rs else r.id.0 ∷ unsettled_ids rs

-- a room with as many of these at its front as it has places for
abbrev pub filled : {A : Type 0} → List A → List A → List A
filled room items = take (length room) items ++ drop (length items) room
