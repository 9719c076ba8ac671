-- Field values, orders, and what an executed order holds.
use Rattle.std.specs.Prelude.{ℕ, ◌==◌, Bool, true, false, ◌&&◌, List, [], ◌∷◌, map, length, slice_index, Option, Some, None, Result, Ok, Err, if◌then◌else◌}
use Rattle.paris_names.specs.declared.ids.RowId.{RowId}
use Rattle.paris_names.specs.declared.ids.Edition.{Edition}
use Rattle.paris_names.specs.declared.keys.Key.{Key}
use Rattle.paris_names.specs.Keys.{key_eq}
use Rattle.paris_geometry.specs.Geometry.{processor_count}
use Rattle.paris_model.specs.declared.actions.Refusal.{Refusal}
use Rattle.paris_model.specs.Frame.{Frame, World, is_selected, put_where}
use Rattle.paris_model.specs.Instructions.{Plan, reads, writes, key_width, value_at, frame_of, after_plan, outcome, given}
use Rattle.paris_field.specs.Fields.{FieldNumbers}
use Rattle.paris_exec.specs.declared.orders.Outcome.{Outcome}
use Rattle.paris_exec.specs.declared.orders.Outcome.TheVariants.{Values, Refused}

-- an order, or a result: the outcome of a result is that of its plan and inputs
pub record Task : Type 0 where
  pub id : RowId
  pub edition : Edition
  pub plan : Plan
  pub inputs : List FieldNumbers

abbrev pub numbers_of : List FieldNumbers → List (List ℕ)
numbers_of values = map (λ (x : FieldNumbers). x.numbers) values

-- numbers at a key of a plan, at the key's width
abbrev pub field_of : Plan → Key → List ℕ → FieldNumbers
field_of p k numbers = record { width = key_width p k; numbers = numbers }

-- whether a value has the key's width, and one number for each processor of the plan's set
abbrev pub fits_key : Plan → Key → FieldNumbers → Bool
fits_key p k x = (x.width == key_width p k) && (length x.numbers == processor_count p.axes)

-- whether the values fit the keys one by one
abbrev pub fits_keys : Plan → List Key → List FieldNumbers → Bool
fits_keys p [] [] = true
fits_keys p [] (x ∷ xs) = false
fits_keys p (k ∷ ks) [] = false
fits_keys p (k ∷ ks) (x ∷ xs) = fits_key p k x && fits_keys p ks xs

-- whether the values are inputs for the plan: one for each key that it reads, in order
abbrev pub fits : Plan → List FieldNumbers → Bool
fits p inputs = fits_keys p (reads p) inputs

-- lists of numbers at the keys, each at its key's width
abbrev pub fields_of : Plan → List Key → List (List ℕ) → List FieldNumbers
fields_of p [] values = []
fields_of p (k ∷ ks) [] = []
fields_of p (k ∷ ks) (v ∷ vs) = field_of p k v ∷ fields_of p ks vs

-- what a result holds, by the definitions' outcome
abbrev pub result_told : Plan → Result (List (List ℕ)) Refusal → Outcome
result_told p (Ok values) = Values (fields_of p (writes p) values)
result_told p (Err cause) = Refused cause

abbrev pub task_outcome : Task → Outcome
task_outcome t = result_told t.plan (outcome t.plan (numbers_of t.inputs))

-- what a result leaves at a key that its plan writes
abbrev pub task_value : Task → Key → FieldNumbers
task_value t k = field_of t.plan k (given t.plan (numbers_of t.inputs) k)

-- the value beside a key
abbrev pub beside : List Key → List FieldNumbers → Key → Option FieldNumbers
beside [] xs k = None
beside (j ∷ js) [] k = None
beside (j ∷ js) (x ∷ xs) k = if key_eq k j then Some x else beside js xs k

-- the numbers at each key that an order's plan reads
abbrev pub seen_at : Task → World
seen_at t = value_at (reads t.plan) (numbers_of t.inputs)

-- what its instruction sees
abbrev pub frame_at : Task → Frame
frame_at t = frame_of t.plan (seen_at t)

-- the values at the keys that it writes, where the instruction isn't refused
abbrev pub left_values : Task → List FieldNumbers
left_values t = fields_of t.plan (writes t.plan) (map (after_plan t.plan (seen_at t)) (writes t.plan))

-- the value at a key after the processors that pass a test have put new numbers into its low bits
abbrev pub put_value_where : Task → (ℕ → Bool) → Key → FieldNumbers → FieldNumbers
put_value_where t who k new = field_of t.plan k (put_where (frame_at t) who k new.width (slice_index new.numbers))

-- the same, where the selected processors have
abbrev pub put_value : Task → Key → FieldNumbers → FieldNumbers
put_value t k new = put_value_where t (is_selected (frame_at t)) k new
