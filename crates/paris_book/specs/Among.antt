-- What the machine shows, said of a book's rows.
use Rattle.std.specs.Prelude.{◌≡◌, ◌≤◌, ◌+◌, ℕ, List, map, length, Option, Some, None, [], ◌∷◌, ◌++◌, if◌then◌else◌}
use Rattle.paris_names.specs.declared.keys.Key.{Key}
use Rattle.paris_model.specs.declared.actions.Refusal.{Refusal}
use Rattle.paris_model.specs.Instructions.{reads, refusal, value_at}
use Rattle.paris_exec.specs.Tasks.{Task, numbers_of}
use Rattle.paris_edits.specs.Rows.{is_settled}
use Rattle.paris_field.specs.Fields.{AllFit, overwritten}
use Rattle.paris_events.specs.State.{Inputs}
use Rattle.paris_events.specs.declared.inputs.Input.{Input}
use Rattle.paris_events.specs.Show.{now, origin_at, shown_of}
use Rattle.paris_events.specs.Lists.{fault_by}
use Rattle.paris_book.specs.Whole.{shape_in}
use Rattle.paris_book.specs.declared.inputs.Given.{Given}
use Rattle.paris_book.specs.declared.inputs.Given.TheVariants.{Numbers, Words}
use Rattle.paris_book.specs.declared.inputs.InputData.{InputData}
use Rattle.paris_book.specs.Entries.{Entry, id_of, seen, rows_seen}
use Rattle.paris_book.specs.declared.look.Look.{Look}
use Rattle.paris_book.specs.declared.look.Look.TheVariants.{Settled as LookSettled, Pending as LookPending}
use Rattle.paris_book.specs.declared.look.SharedLook.{SharedLook}
use Rattle.paris_book.specs.declared.look.SharedLook.TheVariants.{Settled as SharedSettled, Pending as SharedPending}
use Rattle.paris_edits.specs.declared.rows.RowFault.{RowFault}
use Rattle.paris_edits.specs.declared.rows.RowLook.{RowLook}
use Rattle.paris_events.specs.declared.events.Shown.{Shown}
use Rattle.paris_events.specs.declared.events.Shown.TheVariants.{Settled as ShownSettled, Pending}

abbrev pub inputs_of : InputData → Inputs
inputs_of d = record { fields = d.fields.items; flags = d.flags.items }

abbrev pub given_numbers : Given → List ℕ
given_numbers (Numbers xs) = xs.now
given_numbers (Words xs) = xs.now

-- these numbers can be given from a place on
abbrev pub CanGive : Input → ℕ → List ℕ → Type 0
CanGive input from values = (from + length values ≤ length input.value.numbers) × AllFit input.value.width values

-- input data with these numbers in place of as many from a processor on, as the edit of a number gives them
abbrev pub input_given : Input → ℕ → ℕ → List ℕ → Input
input_given input number from values = record { value = record input.value { numbers = overwritten input.value.numbers from values }; number = number }

abbrev pub width_in_shape : Option (ℕ × ℕ) → ℕ
width_in_shape None = 0
width_in_shape (Some s) = s.0

-- what is shown of a key at a place; the width of its value is that of its input data
abbrev pub shown_at : Inputs → List Entry → ℕ → Key → Shown
shown_at inputs es place k = shown_of (origin_at (rows_seen es) place k) (record { width = width_in_shape (shape_in inputs k); numbers = now (seen inputs es) place k })

-- a look, with the value that it lends
abbrev pub look_shown : Look → Shown
look_shown (LookSettled v) = ShownSettled v.now
look_shown (LookPending id) = Pending id

-- the same of one that lends the value to be shared
abbrev pub shared_shown : SharedLook → Shown
shared_shown (SharedSettled v) = ShownSettled v.now
shared_shown (SharedPending id) = Pending id

-- a value that is lent has this width and this number of processors
abbrev pub LookFits : SharedLook → Option (ℕ × ℕ) → Type 0
LookFits (SharedSettled v) shape = shape ≡ Some (v.now.width, length v.now.numbers)
LookFits (SharedPending id) shape = Unit {0}

-- why a result was refused, if it was
abbrev pub cause_told : Option Task → Option Refusal
cause_told None = None
cause_told (Some t) = refusal t.plan (value_at (reads t.plan) (numbers_of t.inputs))

-- why the result that a settled row keeps was refused, if it was
abbrev pub cause_kept : Entry → Option Refusal
cause_kept e = if is_settled e.1.status then cause_told e.1.done else None

-- the settled rows whose results were refused
abbrev pub faults_kept : List Entry → List RowFault
faults_kept [] = []
faults_kept (e ∷ es) = fault_by (id_of e) (cause_kept e) ++ faults_kept es

-- the rows as they are listed
abbrev pub listed_entry : Entry → RowLook
listed_entry e = record { id = id_of e; edition = e.1.edition; status = e.1.status; instr = e.1.plan.instr; cause = cause_kept e }

abbrev pub looks_kept : List Entry → List RowLook
looks_kept es = map listed_entry es
