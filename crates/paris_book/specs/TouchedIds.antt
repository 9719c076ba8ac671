-- The rows that later edits touched, by their ids.
use Rattle.std.specs.Prelude.{ℕ, List, Bool, map, nat_lt}
use Rattle.std.specs.List.{filter}
use Rattle.paris_events.specs.State.{Row}

-- whether an edit behind the first so many touched a row: it was put in or replaced, or its recipe became another one
abbrev pub is_touched : ℕ → Row → Bool
is_touched since r = nat_lt since r.edition.0

-- the ids of these rows, in program order
abbrev pub touched_ids : ℕ → List Row → List ℕ
touched_ids since rows = map (λ (r : Row). r.id.0) (filter (is_touched since) rows)
