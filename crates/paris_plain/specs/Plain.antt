-- What an instruction sees in the plain program, and what the plain program gives.
use Rattle.std.specs.Prelude.{ℕ, Bool, true, false, not, ◌&&◌, ◌||◌, nat_lt, List, [], ◌∷◌, map, Option, Some, None, Result, Ok, Err}
use Rattle.std.specs.List.{list_all}
use Rattle.paris_names.specs.declared.keys.Key.{Key}
use Rattle.paris_names.specs.declared.keys.Key.TheVariants.{Field, Flag}
use Rattle.paris_model.specs.declared.actions.Refusal.{Refusal}
use Rattle.paris_model.specs.declared.actions.Operand.{Operand}
use Rattle.paris_model.specs.declared.actions.Action.{Action}
use Rattle.paris_model.specs.Frame.{Frame}
use Rattle.paris_model.specs.Instructions.{value_at, refusal_in, after_in}

-- the set, its axes, and the numbers at some keys
pub record Seen : Type 0 where
  pub set_no : ℕ
  pub axes : List ℕ
  pub keys : List Key
  pub values : List (List ℕ)

-- the frame in which all other numbers are 0
abbrev pub frame_of_seen : Seen → Frame
frame_of_seen s = record { set_no = s.set_no; axes = s.axes; world = value_at s.keys s.values }

-- whether each number is 0 or 1
abbrev pub are_bits : List ℕ → Bool
are_bits numbers = list_all (λ n. nat_lt n 2) numbers

-- whether a key is a flag
abbrev pub is_flag : Key → Bool
is_flag (Field f) = false
is_flag (Flag s flag) = true

-- whether the numbers at each flag are 0 or 1, where the lists lie beside the keys
abbrev pub flags_are_bits : List Key → List (List ℕ) → Bool
flags_are_bits [] xs = true
flags_are_bits (k ∷ ks) [] = true
flags_are_bits (k ∷ ks) (x ∷ xs) = (not (is_flag k) || are_bits x) && flags_are_bits ks xs

-- the refusal if there is one, else the values
abbrev pub unless_refused : Option Refusal → List (List ℕ) → Result (List (List ℕ)) Refusal
unless_refused None values = Ok values
unless_refused (Some cause) values = Err cause

-- what an action gives in a frame: its numbers at the keys, or its refusal
abbrev pub plain_outcome : Frame → Action Operand ℕ → List Key → Result (List (List ℕ)) Refusal
plain_outcome m i keys = unless_refused (refusal_in m i) (map (after_in m i) keys)
