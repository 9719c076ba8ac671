-- Edits: which are refused, what an accepted one changes, and which rows it makes unsettled.
use Rattle.std.specs.Prelude.{◌<◌, ℕ, ◌+◌, ◌^◌, ◌==◌, List, [], ◌∷◌, ◌++◌, Bool, false, ◌||◌, Option, Some, None, Result, Ok, Err, if◌then◌else◌, insert, remove, take, drop, length, position, nat_le, nat_lt}
use Rattle.std.specs.Option.{option_or, option_map}
use Rattle.paris_names.specs.declared.faults.Fault.{Fault}
use Rattle.paris_names.specs.declared.faults.Fault.TheVariants.{BadAxes, NoField, WrongCount, TooWide, NoRow, RowsFull, EditionsSpent}
use Rattle.paris_names.specs.declared.keys.Key.{Key}
use Rattle.paris_geometry.specs.Geometry.{is_geometry, processor_count}
use Rattle.paris_board.specs.Board.{Board, key_named, set_named, set_fault, field_fault, with_set, with_field, width_of, count_of, axes_of}
use Rattle.paris_model.specs.Instructions.{Plan}
use Rattle.paris_model.specs.Recipe.{Recipe, recipe, past, same}
use Rattle.paris_instr.specs.Resolve.{resolution, fault_in}
use Rattle.paris_field.specs.Fields.{overwritten}
use Rattle.paris_edits.specs.declared.rows.Status.TheVariants.{Waiting}
use Rattle.paris_events.specs.declared.inputs.Input.{Input}
use Rattle.paris_edits.specs.declared.edits.Edit.{Edit}
use Rattle.paris_edits.specs.declared.edits.Edit.TheVariants.{AddSet, AddField, Input as SetInput, Insert, Delete, Replace}
use Rattle.paris_edits.specs.declared.edits.EditReply.{EditReply}
use Rattle.paris_edits.specs.declared.edits.EditReply.TheVariants.{Accepted, Row as NewRow}
use Rattle.paris_names.specs.declared.limits.TheConstants.{MAX_EDITS, MAX_ROWS}
use Rattle.paris_events.specs.CutOff.{cut_off}
use Rattle.paris_events.specs.State.{Row, Inputs, State, input_of, start_recipe, with_input, declared_input, declared_flags, find_row, place_of_spot}

abbrev pub row_recipe : (Key → Recipe) → Row → Recipe
row_recipe q r = recipe q r.id.0 r.set_by r.plan

abbrev pub past_row : (Key → Recipe) → Row → Key → Recipe
past_row q r = past q r.id.0 r.set_by r.plan

-- a row beside the recipe that it had before the edit, if it was there
pub record Known : Type 0 where
  pub row : Row
  pub before : Option Recipe

-- each row with its recipe
abbrev pub known : (Key → Recipe) → List Row → List Known
known q [] = []
known q (r ∷ rs) = record { row = r; before = Some (row_recipe q r) } ∷ known (past_row q r) rs

-- whether a row was there before with this recipe
abbrev pub had_recipe : Option Recipe → Recipe → Bool
had_recipe None q = false
had_recipe (Some p) q = same p q

-- a row made unsettled by the edit of this number
abbrev pub unsettled : ℕ → Row → Row
unsettled n r = record r { edition = record { 0 = n }; status = Waiting }

-- the rows after an edit: a row that was there with the same recipe keeps edition and status, every other one waits
abbrev pub judged : ℕ → (Key → Recipe) → List Known → List Row
judged n q [] = []
judged n q (k ∷ ks) = (if had_recipe k.before (row_recipe q k.row) then k.row else unsettled n k.row) ∷ judged n (past_row q k.row) ks

abbrev pub known_rows : State → List Known
known_rows s = known (start_recipe s.inputs) s.rows

-- the state after an accepted edit: its board, its input data, its next id, and its rows beside the recipes that they had
abbrev pub edited : State → Board → Inputs → ℕ → List Known → State
edited s board inputs next rows = record {
  board = board;
  edits = s.edits + 1;
  inputs = inputs;
  next = next;
  rows = judged (s.edits + 1) (start_recipe inputs) rows;
}

abbrev pub set_added : State → List ℕ → List ℕ → State
set_added s name axes =
    edited s (with_set s.board name axes) (record s.inputs { flags = s.inputs.flags ++ declared_flags (s.edits + 1) (processor_count axes) ∷ [] }) s.next (known_rows s)

abbrev pub field_added : State → List ℕ → Option ℕ → ℕ → State
field_added s name None width = s
field_added s name (Some set) width =
    edited s (with_field s.board name set width) (record s.inputs { fields = s.inputs.fields ++ declared_input (s.edits + 1) width (processor_count (axes_of s.board set)) 0 ∷ [] }) s.next (known_rows s)

abbrev pub changed_input : State → ℕ → List ℕ → Input → Input
changed_input s from values i = record { value = record i.value { numbers = overwritten i.value.numbers from values }; number = s.edits + 1 }

abbrev pub input_changed : State → Key → ℕ → List ℕ → Option Input → State
input_changed s k from values None = s
input_changed s k from values (Some i) = edited s s.board (with_input s.inputs k (changed_input s from values i)) s.next (known_rows s)

abbrev pub input_set : State → Option Key → ℕ → List ℕ → State
input_set s None from values = s
input_set s (Some k) from values = input_changed s k from values (input_of s.inputs k)

abbrev pub new_row : State → Plan → Row
new_row s p = record { id = record { 0 = s.next }; plan = p; set_by = s.edits + 1; edition = record { 0 = s.edits + 1 }; status = Waiting; last = None }

abbrev pub row_inserted : State → ℕ → Plan → State
row_inserted s place p = edited s s.board s.inputs (s.next + 1) (insert (known_rows s) place (record { row = new_row s p; before = None }))

abbrev pub plan_inserted : State → ℕ → Result Plan Fault → State
plan_inserted s place (Ok p) = row_inserted s place p
plan_inserted s place (Err fault) = s

abbrev pub inserted_from : State → Option ℕ → Result Plan Fault → State
inserted_from s None plan = s
inserted_from s (Some place) plan = plan_inserted s place plan

abbrev pub row_deleted : State → ℕ → State
row_deleted s place = edited s s.board s.inputs s.next (remove (known_rows s) place)

abbrev pub deleted_from : State → Option (ℕ × Row) → State
deleted_from s None = s
deleted_from s (Some e) = row_deleted s e.0

-- a row with another plan, set by the edit of this number, beside the recipe that it had
abbrev pub set_again : ℕ → Plan → Known → Known
set_again n p k = record { row = record k.row { plan = p; set_by = n }; before = k.before }

-- the same of the first of rows
abbrev pub set_first : ℕ → Plan → List Known → List Known
set_first n p [] = []
set_first n p (k ∷ ks) = set_again n p k ∷ ks

abbrev pub row_replaced : State → ℕ → Plan → State
row_replaced s place p = edited s s.board s.inputs s.next (take place (known_rows s) ++ set_first (s.edits + 1) p (drop place (known_rows s)))

abbrev pub plan_replaced : State → ℕ → Result Plan Fault → State
plan_replaced s place (Ok p) = row_replaced s place p
plan_replaced s place (Err fault) = s

abbrev pub replaced_from : State → Option (ℕ × Row) → Result Plan Fault → State
replaced_from s None plan = s
replaced_from s (Some e) plan = plan_replaced s e.0 plan

-- the state after an edit that has no fault, before any row is settled again
abbrev pub edited_by : State → Edit → State
edited_by s (AddSet name axes) = set_added s name axes
edited_by s (AddField name set width) = field_added s name (set_named s.board set) width
edited_by s (SetInput name from values) = input_set s (key_named s.board name) from values
edited_by s (Insert spot instr) = inserted_from s (place_of_spot s spot) (resolution s.board instr)
edited_by s (Delete id) = deleted_from s (find_row s id)
edited_by s (Replace id instr) = replaced_from s (find_row s id) (resolution s.board instr)

-- the state after an edit that has no fault
abbrev pub accepted : State → Edit → State
accepted s e = cut_off (edited_by s e)

-- why values can't be given from a processor on to a key with so many processors and of this width, if they can't
abbrev pub fault_of_values : ℕ → ℕ → ℕ → List ℕ → Option Fault
fault_of_values count width from values =
    if (length values == 0) || nat_lt count (from + length values) then Some WrongCount
    else option_map (λ i. TooWide (from + i)) (position (λ x. nat_le (2 ^ width) x) values)

abbrev pub values_fault : State → ℕ → List ℕ → Key → Option Fault
values_fault s from values k = fault_of_values (count_of s.board k) (width_of s.board k) from values

abbrev pub input_fault : State → ℕ → List ℕ → Option Key → Option Fault
input_fault s from values None = Some NoField
input_fault s from values (Some k) = values_fault s from values k

-- why a place can't take one more row of a plan, if it can't
abbrev pub insert_fault : State → Option ℕ → Result Plan Fault → Option Fault
insert_fault s None plan = Some NoRow
insert_fault s (Some place) plan = if nat_le MAX_ROWS (length s.rows) then Some RowsFull else fault_in plan

abbrev pub delete_fault : Option (ℕ × Row) → Option Fault
delete_fault None = Some NoRow
delete_fault (Some e) = None

abbrev pub replace_fault : Option (ℕ × Row) → Result Plan Fault → Option Fault
replace_fault None plan = Some NoRow
replace_fault (Some e) plan = fault_in plan

-- why an edit is refused by its content, if it is
abbrev pub content_fault : State → Edit → Option Fault
content_fault s (AddSet name axes) = option_or (set_fault s.board name) (if is_geometry axes then None else Some BadAxes)
content_fault s (AddField name set width) = field_fault s.board name set width
content_fault s (SetInput name from values) = input_fault s from values (key_named s.board name)
content_fault s (Insert spot instr) = insert_fault s (place_of_spot s spot) (resolution s.board instr)
content_fault s (Delete id) = delete_fault (find_row s id)
content_fault s (Replace id instr) = replace_fault (find_row s id) (resolution s.board instr)

-- the edit counter is not spent
abbrev pub HasEditsLeft : State → Type 0
HasEditsLeft s = s.edits < MAX_EDITS

-- why an edit is refused, if it is: a spent counter comes first
abbrev pub edit_fault : State → Edit → Option Fault
edit_fault s e = if nat_le MAX_EDITS s.edits then Some EditionsSpent else content_fault s e

abbrev pub edit_answer : State → Edit → EditReply
edit_answer s (Insert spot instr) = NewRow (record { 0 = s.next })
edit_answer s _ = Accepted

abbrev pub edit_reply_by : State → Edit → Option Fault → Result EditReply Fault
edit_reply_by s e None = Ok (edit_answer s e)
edit_reply_by s e (Some fault) = Err fault

abbrev pub edit_reply : State → Edit → Result EditReply Fault
edit_reply s e = edit_reply_by s e (edit_fault s e)

abbrev pub after_edit_by : State → Edit → Option Fault → State
after_edit_by s e None = accepted s e
after_edit_by s e (Some fault) = s

abbrev pub after_edit : State → Edit → State
after_edit s e = after_edit_by s e (edit_fault s e)
