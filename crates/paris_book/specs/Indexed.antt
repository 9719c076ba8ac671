-- The rows of a book, their index, and where each of them stands.
use Rattle.std.specs.Prelude.{◌≡◌, ℕ, ◌≤◌, List, Bool, true, Some, length, slice_get}
use Rattle.paris_names.specs.declared.limits.TheConstants.{MAX_ROWS}
use Rattle.paris_program.specs.Program.{Program, AreOwn}
use Rattle.paris_depends.specs.Index.{Footprint, footprints}
use Rattle.paris_book.specs.Entries.{Entry}
use Rattle.paris_book.specs.Marks.{data_plan}
use Rattle.paris_book.specs.Rows.{RowData}
use Rattle.paris_book.specs.Statuses.{is_unsettled, status_in, statuses_of}
use Rattle.paris_edits.specs.declared.rows.Status.{Status}

-- the index is that of the rows, the statuses are theirs by place, and there are no more of them than a program may have
pub record IsIndexed (rows : List Entry) (index : List (ℕ × Footprint)) (statuses : List Status) : Type 0 where
  pub indexed : footprints data_plan rows ≡ index
  pub few : length rows ≤ MAX_ROWS
  pub standing : statuses_of rows ≡ statuses

abbrev pub is_unsettled_entry : Entry → Bool
is_unsettled_entry e = is_unsettled (status_in e)

-- an unsettled row stands at a place
pub record IsUnsettledAt (rows : List Entry) (place : ℕ) : Type 0 where
  pub row : Entry
  pub there : slice_get rows place ≡ Some row
  pub unsettled : is_unsettled_entry row ≡ true

-- the same, and each unsettled row may be changed
pub record IsHeld (p : Program RowData) (index : List (ℕ × Footprint)) (statuses : List Status) : Type 0 where
  pub listed : IsIndexed p.rows index statuses
  pub own : AreOwn p is_unsettled_entry
