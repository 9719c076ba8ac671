-- The rows as the book keeps them: each with its id, as a program's rows are.
use Rattle.std.specs.Prelude.{◌≡◌, ℕ, List, [], Some, map, slice_get, slice_set}
use Rattle.paris_names.specs.declared.ids.RowId.{RowId}
use Rattle.paris_names.specs.declared.profiles.Profile.TheVariants.{One}
use Rattle.paris_board.specs.Board.{empty_board}
use Rattle.paris_model.specs.Instructions.{Plan}
use Rattle.std.specs.Option.{option_map}
use Rattle.paris_events.specs.State.{Row, State, Inputs, work_of}
use Rattle.paris_book.specs.Rows.{RowData}

-- a row's id, and what the book keeps of the row
abbrev pub Entry : Type 0
Entry = ℕ × RowData

abbrev pub id_of : Entry → RowId
id_of e = record { 0 = e.0 }

abbrev pub entry_plan : Entry → Plan
entry_plan e = e.1.plan

-- what the machine sees of a row
abbrev pub machine_row : Entry → Row
machine_row e = record { id = id_of e; plan = e.1.plan; set_by = e.1.set_by; edition = e.1.edition; status = e.1.status; last = option_map work_of e.1.done }

-- input data and rows as the machine sees them, beside a board and counts of no meaning
abbrev pub seen : Inputs → List Entry → State
seen inputs es = record { board = empty_board One; edits = 0; inputs = inputs; next = 1; rows = map machine_row es }

-- the same of rows alone
abbrev pub rows_seen : List Entry → State
rows_seen es = seen (record { fields = []; flags = [] }) es

-- a row with its data changed, under its id
abbrev pub with_data : (RowData → RowData) → Entry → Entry
with_data change e = (e.0, change e.1)

-- the rows after the data of the one at a place was changed
abbrev pub ChangedAt : (RowData → RowData) → List Entry → ℕ → List Entry → Type 0
ChangedAt change old place new = (e : Entry) → slice_get old place ≡ Some e → new ≡ slice_set old place (with_data change e)
