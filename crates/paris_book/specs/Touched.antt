-- Behind an edit: looking at rows that it touched, and at no others.
use Rattle.std.specs.Prelude.{◌≡◌, ℕ, List, [], ◌∷◌, Option, Some, None}
use Rattle.paris_events.specs.State.{Row, State, find_id}
use Rattle.paris_events.specs.CutOff.{cut_at, cut_off}

-- the state once a row that was found was looked at
abbrev pub cut_one : State → Option (ℕ × Row) → State
cut_one s None = s
cut_one s (Some e) = cut_at s e.0

-- the state once the rows with these ids were looked at, one after another
abbrev pub cut_listed : List ℕ → State → State
cut_listed [] s = s
cut_listed (i ∷ is) s = cut_listed is (cut_one s (find_id i s.rows))

-- to look at these is the whole pass
abbrev pub AreEnough : List ℕ → State → Type 0
AreEnough ids s = cut_listed ids s ≡ cut_off s
