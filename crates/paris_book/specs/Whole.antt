-- What is always true of a book.
use Rattle.std.specs.Prelude.{◌≡◌, ℕ, ◌+◌, ◌<◌, ◌≤◌, List, [], ◌∷◌, true, ◌||◌, length, Option, Some, None, if◌then◌else◌}
use Rattle.paris_names.specs.declared.keys.Key.{Key}
use Rattle.paris_names.specs.Keys.{has_key}
use Rattle.paris_geometry.specs.Geometry.{processor_count}
use Rattle.paris_board.specs.Board.{Board, is_declared, width_of, count_of}
use Rattle.paris_model.specs.Instructions.{Plan, reads, writes, key_width}
use Rattle.paris_program.specs.Program.{ids_of}
use Rattle.paris_book.specs.Kept.{Sound}
use Rattle.paris_events.specs.State.{Inputs, IdsApart, input_of, number_in, start_world}
use Rattle.paris_events.specs.declared.inputs.Input.{Input}
use Rattle.paris_book.specs.Entries.{Entry}
use Rattle.paris_book.specs.Sources.{IsSourced}
use Rattle.paris_names.specs.declared.limits.TheConstants.{MAX_EDITS}

-- the width of a key and how many numbers it has, if it is declared
abbrev pub shape_on : Board → Key → Option (ℕ × ℕ)
shape_on b k = if is_declared b k then Some (width_of b k, count_of b k) else None

abbrev pub input_shape : Option Input → Option (ℕ × ℕ)
input_shape None = None
input_shape (Some i) = Some (i.value.width, length i.value.numbers)

abbrev pub shape_in : Inputs → Key → Option (ℕ × ℕ)
shape_in inputs k = input_shape (input_of inputs k)

-- the input data is that of the declared keys
abbrev pub Shaped : Board → Inputs → Type 0
Shaped b inputs = (k : Key) → shape_in inputs k ≡ shape_on b k

-- no number is above the count of edits
abbrev pub InputsBelow : ℕ → Inputs → Type 0
InputsBelow n inputs = (k : Key) → number_in (input_of inputs k) ≤ n

abbrev pub RowsBelow : ℕ → ℕ → List Entry → Type 0
RowsBelow n next [] = Unit {0}
RowsBelow n next (e ∷ es) = (e.1.set_by ≤ n) × (e.0 < next) × RowsBelow n next es

-- the keys of a plan have input data, of the plan's widths and its number of processors
abbrev pub Fitted : Inputs → Plan → Type 0
Fitted inputs p = (k : Key) → (has_key (reads p) k || has_key (writes p) k) ≡ true → shape_in inputs k ≡ Some (key_width p k, processor_count p.axes)

abbrev pub AllFitted : Inputs → List Entry → Type 0
AllFitted inputs [] = Unit {0}
AllFitted inputs (e ∷ es) = Fitted inputs e.1.plan × AllFitted inputs es

pub record IsWhole (board : Board) (edits next : ℕ) (inputs : Inputs) (rows : List Entry) : Type 0 where
  pub next_few : next ≤ edits + 1
  pub edits_few : edits ≤ MAX_EDITS
  pub as_many_fields : length inputs.fields ≡ length board.fields
  pub as_many_flags : length inputs.flags ≡ length board.sets
  pub shaped : Shaped board inputs
  pub inputs_below : InputsBelow edits inputs
  pub rows_below : RowsBelow edits next rows
  pub ids_apart : IdsApart (ids_of rows)
  pub fitted : AllFitted inputs rows
  pub sound : Sound (start_world inputs) (λ _. true) rows
  pub sourced : IsSourced edits inputs rows
