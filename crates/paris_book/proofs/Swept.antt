-- The rows after a sweep forward from keys whose recipes changed.
use Rattle.std.specs.Prelude.{ℕ, List, [], ◌∷◌, Bool, if◌then◌else◌}
use Rattle.paris_names.specs.declared.keys.Key.{Key}
use Rattle.paris_depends.specs.Sweeps.{touches, spread, swept as swept_by}
use Rattle.paris_book.specs.Entries.{Entry, with_data}
use Rattle.paris_book.specs.Marks.{data_plan, stale_data}
use Rattle.paris_events.specs.State.{Row}
use Rattle.paris_events.specs.Edits.{unsettled}

-- the rows after a sweep from changed keys
abbrev pub swept : ℕ → (Key → Bool) → List Row → List Row
swept n d [] = []
swept n d (r ∷ rs) = (if touches d r.plan then unsettled n r else r) ∷ swept n (spread d r.plan) rs

-- the same of a book's rows
abbrev pub swept_entries : ℕ → (Key → Bool) → List Entry → List Entry
swept_entries n d es = swept_by data_plan (with_data (stale_data n)) (λ e. e) d es
