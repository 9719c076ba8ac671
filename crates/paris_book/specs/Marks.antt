-- What calls change of a row, and the rows that an edit makes unsettled.
use Rattle.std.specs.Prelude.{ℕ, List, map, Some, None, Bool, ◌||◌, nat_eq}
use Rattle.std.specs.List.{list_any}
use Rattle.paris_names.specs.declared.keys.Key.{Key}
use Rattle.paris_names.specs.Keys.{has_key}
use Rattle.paris_model.specs.Instructions.{Plan, writes}
use Rattle.paris_names.specs.declared.ids.RowId.{RowId}
use Rattle.paris_depends.specs.Sweeps.{by_ids}
use Rattle.paris_exec.specs.Tasks.{Task}
use Rattle.paris_events.specs.Orders.{recalled_status}
use Rattle.paris_book.specs.Rows.{RowData}
use Rattle.paris_book.specs.Entries.{Entry, with_data}
use Rattle.paris_book.specs.SourceLists.{no_sources}
use Rattle.paris_book.specs.declared.sources.Source.{Source}
use Rattle.paris_edits.specs.declared.rows.Status.TheVariants.{Waiting, Out, Settled}

abbrev pub data_plan : RowData → Plan
data_plan row = row.plan

-- a row that the edit of this number gives this plan
abbrev pub fresh_data : Plan → ℕ → RowData
fresh_data p n = record { plan = p; set_by = n; edition = record { 0 = n }; status = Waiting; done = None; sources = no_sources }

-- a row to which the edit of this number gives another plan
abbrev pub replaced_data : Plan → ℕ → RowData → RowData
replaced_data p n row = record { plan = p; set_by = n; edition = record { 0 = n }; status = Waiting; done = row.done; sources = row.sources }

-- whether a plan or another one writes a key
abbrev pub writes_either : Plan → Plan → Key → Bool
writes_either p p' k = has_key (writes p) k || has_key (writes p') k

-- a row made unsettled by the edit of this number
abbrev pub stale_data : ℕ → RowData → RowData
stale_data n row = record row { edition = record { 0 = n }; status = Waiting }

-- the rows of these ids made unsettled
abbrev pub unsettled_by_ids : ℕ → List ℕ → List Entry → List Entry
unsettled_by_ids n ids rows = by_ids (with_data (stale_data n)) (λ r. r) ids rows

abbrev pub ids_in : List RowId → List ℕ
ids_in ids = map (λ (id : RowId). id.0) ids

-- a row of which no order is out any more
abbrev pub recalled_data : RowData → RowData
recalled_data row = record row { status = recalled_status row.status }

-- a row of which an order is out
abbrev pub out_data : RowData → RowData
out_data row = record row { status = Out }

-- a row with the result that it keeps, and the sources of the values that this one was computed by
abbrev pub kept_data : Task → List Source → RowData → RowData
kept_data t sources row = record row { status = Settled; done = Some t; sources = sources }

-- a row settled by the result that it keeps, with the present sources of the same values
abbrev pub again_data : List Source → RowData → RowData
again_data sources row = record row { status = Settled; sources = sources }

-- whether a row has one of these ids
abbrev pub is_among : List ℕ → Entry → Bool
is_among ids e = list_any (nat_eq e.0) ids
