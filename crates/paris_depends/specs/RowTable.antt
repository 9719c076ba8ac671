-- The rows of an index, which copies may share.
use Rattle.std.specs.Prelude.{◌≡◌, ℕ, List, Bool, true, Some, slice_get}
use Rattle.paris_depends.specs.Index.{Footprint}
use Rattle.paris_depends.specs.declared.row_table.RowTable.TheInside.{Inside}

-- the rows in order; for each whether it may be changed; and for each place, and for the end, whether a row can be put in there with no
-- more memory
pub record RowTable : Type 0 where
  pub rows : List (ℕ × Footprint)
  pub own : List Bool
  pub room : List Bool

abbrev pub tabled : Inside → RowTable
tabled t = record { rows = t.rows.items; own = t.rows.own; room = t.rows.room }

-- the row at a place may be changed
abbrev pub IsOwnAt : RowTable → ℕ → Type 0
IsOwnAt t place = slice_get t.own place ≡ Some true

-- a row can be put in at a place with no more memory
abbrev pub HasPlace : RowTable → ℕ → Type 0
HasPlace t place = slice_get t.room place ≡ Some true
