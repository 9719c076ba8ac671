-- What a book is: its board, its input data and its rows.
use Rattle.std.specs.Prelude.{◌≡◌, ℕ, ◌+◌, ◌==◌, List, [], ◌∷◌, false, Option, Some, None, slice_set, slice_get, length, map, replicate}
use Rattle.std.specs.List.{find, enumerate_from, list_any}
use Rattle.std.specs.Option.{option_map}
use Rattle.paris_names.specs.declared.keys.FlagName.{FlagName}
use Rattle.paris_names.specs.declared.keys.FlagName.TheVariants.{Context, Test, Carry, Overflow}
use Rattle.paris_names.specs.declared.keys.Key.{Key}
use Rattle.paris_names.specs.declared.keys.Key.TheVariants.{Field, Flag}
use Rattle.paris_names.specs.declared.ids.RowId.{RowId}
use Rattle.paris_names.specs.declared.ids.Edition.{Edition}
use Rattle.paris_names.specs.declared.ids.Spot.{Spot}
use Rattle.paris_names.specs.declared.ids.Spot.TheVariants.{Start as AtStart, After, End as AtEnd}
use Rattle.paris_names.specs.declared.profiles.Profile.{Profile}
use Rattle.paris_names.specs.declared.profiles.Profile.TheVariants.{One}
use Rattle.paris_board.specs.Board.{Board, empty_board}
use Rattle.paris_model.specs.Frame.{World}
use Rattle.paris_model.specs.Instructions.{Plan}
use Rattle.paris_model.specs.Recipe.{Recipe}
use Rattle.paris_model.specs.Recipe.Recipe.{Start}
use Rattle.paris_field.specs.Fields.{FieldNumbers}
use Rattle.paris_exec.specs.Tasks.{Task}
use Rattle.paris_edits.specs.declared.rows.Status.{Status}
use Rattle.paris_events.specs.declared.inputs.Input.{Input}
use Rattle.paris_events.specs.declared.inputs.FlagInputs.{FlagInputs}

-- what a worker needs to compute: a plan, and a value for each key that it reads
pub record Work : Type 0 where
  pub plan : Plan
  pub inputs : List FieldNumbers

-- the work of an order or a result
abbrev pub work_of : Task → Work
work_of t = record { plan = t.plan; inputs = t.inputs }

-- a row of the program: its id, its plan, the number of the edit that last set its instruction, its edition, its status, and the work of
-- the result that was last kept of it
pub record Row : Type 0 where
  pub id : RowId
  pub plan : Plan
  pub set_by : ℕ
  pub edition : Edition
  pub status : Status
  pub last : Option Work

-- the input data: of each field, and of the flags of each set, in the order of declaration
pub record Inputs : Type 0 where
  pub fields : List Input
  pub flags : List FlagInputs

-- what a book is; it holds no results
pub record State : Type 0 where
  pub board : Board
  pub edits : ℕ
  pub inputs : Inputs
  pub next : ℕ
  pub rows : List Row

-- an empty book of a profile whose edit counter begins at a count
abbrev pub empty_state_of : Profile → ℕ → State
empty_state_of profile count = record { board = empty_board profile; edits = count; inputs = record { fields = []; flags = [] }; next = 1; rows = [] }

-- an empty book of profile 1
abbrev pub empty_state : ℕ → State
empty_state count = empty_state_of One count

abbrev pub flag_input : FlagInputs → FlagName → Input
flag_input x Context = x.context
flag_input x Test = x.test
flag_input x Carry = x.carry
flag_input x Overflow = x.overflow

abbrev pub with_flag_input : FlagInputs → FlagName → Input → FlagInputs
with_flag_input x Context i = record x { context = i }
with_flag_input x Test i = record x { test = i }
with_flag_input x Carry i = record x { carry = i }
with_flag_input x Overflow i = record x { overflow = i }

-- the input data of a key, if it is declared
abbrev pub input_of : Inputs → Key → Option Input
input_of inputs (Field f) = slice_get inputs.fields f
input_of inputs (Flag s flag) = option_map (λ x. flag_input x flag) (slice_get inputs.flags s)

abbrev pub numbers_in : Option Input → List ℕ
numbers_in None = []
numbers_in (Some i) = i.value.numbers

abbrev pub number_in : Option Input → ℕ
number_in None = 0
number_in (Some i) = i.number

-- each key's numbers at the start of the program
abbrev pub start_world : Inputs → World
start_world inputs k = numbers_in (input_of inputs k)

-- the number of the edit that last set or declared each key's input data
abbrev pub start_recipe : Inputs → Key → Recipe
start_recipe inputs k = Start (number_in (input_of inputs k))

abbrev pub set_flags : List FlagInputs → ℕ → FlagName → Input → Option FlagInputs → List FlagInputs
set_flags flags s flag i None = flags
set_flags flags s flag i (Some x) = slice_set flags s (with_flag_input x flag i)

-- the input data with that of a key replaced
abbrev pub with_input : Inputs → Key → Input → Inputs
with_input inputs (Field f) i = record inputs { fields = slice_set inputs.fields f i }
with_input inputs (Flag s flag) i = record inputs { flags = set_flags inputs.flags s flag i (slice_get inputs.flags s) }

-- input data as it is declared: the same number everywhere
abbrev pub declared_input : ℕ → ℕ → ℕ → ℕ → Input
declared_input edit width count number = record { value = record { width = width; numbers = replicate count number }; number = edit }

-- context begins as 1, the other flags as 0
abbrev pub declared_flags : ℕ → ℕ → FlagInputs
declared_flags edit count = record {
  context = declared_input edit 1 count 1;
  test = declared_input edit 1 count 0;
  carry = declared_input edit 1 count 0;
  overflow = declared_input edit 1 count 0;
}

abbrev pub row_plan : Row → Plan
row_plan r = r.plan

-- the row of an id, with its place
abbrev pub find_id : ℕ → List Row → Option (ℕ × Row)
find_id id rows = find (λ e. e.1.id.0 == id) (enumerate_from 0 rows)

abbrev pub find_row : State → RowId → Option (ℕ × Row)
find_row s id = find_id id.0 s.rows

-- the rows' ids
abbrev pub row_ids : List Row → List ℕ
row_ids rows = map (λ (r : Row). r.id.0) rows

-- each id stands once
abbrev pub IdsApart : List ℕ → Type 0
IdsApart [] = Unit {0}
IdsApart (i ∷ is) = (list_any (λ j. j == i) is ≡ false) × IdsApart is

-- the place that a spot names, if there is one
abbrev pub place_of_spot : State → Spot → Option ℕ
place_of_spot s AtStart = Some 0
place_of_spot s (After id) = option_map (λ e. e.0 + 1) (find_row s id)
place_of_spot s AtEnd = Some (length s.rows)

abbrev pub with_status : State → ℕ × Row → Status → State
with_status s e status = record s { rows = slice_set s.rows e.0 (record e.1 { status = status }) }
