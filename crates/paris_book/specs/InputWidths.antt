-- Numbers that are given to a key, by how many they are.
use Rattle.std.specs.Prelude.{ℕ, ◌+◌, ◌==◌, ◌||◌, Option, Some, None, Result, Ok, Err, if◌then◌else◌, nat_le, nat_lt}
use Rattle.paris_names.specs.declared.faults.Fault.{Fault}
use Rattle.paris_names.specs.declared.faults.Fault.TheVariants.{EditionsSpent, NoField, WrongCount}
use Rattle.paris_names.specs.declared.keys.Key.{Key}
use Rattle.paris_names.specs.declared.limits.TheConstants.{MAX_EDITS}
use Rattle.paris_names.specs.declared.names.KeyName.{KeyName}
use Rattle.paris_board.specs.Board.{key_named, width_of, count_of}
use Rattle.paris_events.specs.State.{State}

abbrev pub width_for : State → ℕ → ℕ → Option Key → Result ℕ Fault
width_for s from count None = Err NoField
width_for s from count (Some k) = if (count == 0) || nat_lt (count_of s.board k) (from + count) then Err WrongCount else Ok (width_of s.board k)

-- the width that so many numbers have to fit which are given to a key from a processor on, or why they are refused, whatever they are
abbrev pub input_width : State → KeyName → ℕ → ℕ → Result ℕ Fault
input_width s name from count = if nat_le MAX_EDITS s.edits then Err EditionsSpent else width_for s from count (key_named s.board name)
