-- The list of rows, and the rows that are refused.
use Rattle.std.specs.Prelude.{List, [], ◌∷◌, ◌++◌, Option, Some, None, if◌then◌else◌}
use Rattle.paris_names.specs.declared.ids.RowId.{RowId}
use Rattle.paris_model.specs.declared.actions.Refusal.{Refusal}
use Rattle.paris_model.specs.Frame.{World}
use Rattle.paris_model.specs.Instructions.{refusal, one}
use Rattle.paris_edits.specs.Rows.{is_settled}
use Rattle.paris_edits.specs.declared.rows.RowFault.{RowFault}
use Rattle.paris_edits.specs.declared.rows.RowLook.{RowLook}
use Rattle.paris_events.specs.State.{Row, State, start_world}

-- why a settled row is refused in the world before it, if it is
abbrev pub cause_in : World → Row → Option Refusal
cause_in w r = if is_settled r.status then refusal r.plan w else None

-- a row's id with the cause, if there is one
abbrev pub fault_by : RowId → Option Refusal → List RowFault
fault_by id None = []
fault_by id (Some cause) = record { id = id; cause = cause } ∷ []

-- the settled rows that the run from a world refuses, in program order, with the cause
abbrev pub faults_in : World → List Row → List RowFault
faults_in w [] = []
faults_in w (r ∷ rs) = fault_by r.id (cause_in w r) ++ faults_in (one r.plan w) rs

-- those of running the program once from the input data
abbrev pub faults_of : State → List RowFault
faults_of s = faults_in (start_world s.inputs) s.rows

-- a row as it is listed, with the world before it
abbrev pub listed_row : World → Row → RowLook
listed_row w r = record { id = r.id; edition = r.edition; status = r.status; instr = r.plan.instr; cause = cause_in w r }

abbrev pub listed_in : World → List Row → List RowLook
listed_in w [] = []
listed_in w (r ∷ rs) = listed_row w r ∷ listed_in (one r.plan w) rs

-- the rows in program order, with the causes of running the program once from the input data
abbrev pub list_of : State → List RowLook
list_of s = listed_in (start_world s.inputs) s.rows
