-- Where the rows of a book stand, by place, and the search for unsettled rows.
use Rattle.std.specs.Prelude.{◌≡◌, ◌<◌, ◌≤◌, ℕ, List, Bool, true, Option, Some, length, map, drop, not, slice_get}
use Rattle.std.specs.List.{count_by, position_from}
use Rattle.paris_names.specs.declared.limits.TheConstants.{MAX_ROWS}
use Rattle.paris_edits.specs.Rows.{is_settled}
use Rattle.paris_edits.specs.declared.rows.Status.{Status}
use Rattle.paris_events.specs.State.{Row}
use Rattle.paris_book.specs.Entries.{Entry}
use Rattle.paris_book.specs.declared.statuses.Span.{Span}

abbrev pub status_in : Entry → Status
status_in e = e.1.status

abbrev pub statuses_of : List Entry → List Status
statuses_of rows = map status_in rows

abbrev pub is_unsettled : Status → Bool
is_unsettled s = not (is_settled s)

-- the first place from one on where an unsettled row's status stands
abbrev pub first_unsettled : List Status → ℕ → Option ℕ
first_unsettled statuses from = position_from is_unsettled from (drop from statuses)

-- the same place among rows
abbrev pub next_unsettled : List Row → ℕ → Option ℕ
next_unsettled rows from = position_from (λ (r : Row). is_unsettled r.status) from (drop from rows)

abbrev pub IsInSpan : Span → ℕ → Type 0
IsInSpan span i = (span.start ≤ i) × (i < span.end)

-- the span counts the unsettled rows, and has the places of all of them
pub record IsSpanned (statuses : List Status) (span : Span) : Type 0 where
  pub few : length statuses ≤ MAX_ROWS
  pub within : span.end ≤ length statuses
  pub count : span.unsettled ≡ count_by is_unsettled statuses
  pub held : (i : ℕ) (s : Status) → slice_get statuses i ≡ Some s → is_unsettled s ≡ true → IsInSpan span i
