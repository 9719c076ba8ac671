-- How far a script is read: the lines that ended, and the line that has begun.
use Rattle.std.specs.Prelude.{ℕ, ◌==◌, List, [], ◌∷◌, ◌++◌, length, if◌then◌else◌, nat_le}
use Rattle.paris_session.specs.Hands.{longest_line}
use Rattle.paris_session.specs.Transcript.{Sitting, after_lines, replies}

-- a line with one byte more; of a line that is too long, one byte too many is kept
abbrev pub with_byte : List ℕ → ℕ → List ℕ
with_byte line b = if nat_le (length line) longest_line then line ++ b ∷ [] else line

-- the lines that a line feed ends, where `begun` stands before the bytes
abbrev pub ended_lines : List ℕ → List ℕ → List (List ℕ)
ended_lines begun [] = []
ended_lines begun (b ∷ bs) = if b == 10 then begun ∷ ended_lines [] bs else ended_lines (with_byte begun b) bs

-- the line that no line feed ends
abbrev pub open_line : List ℕ → List ℕ → List ℕ
open_line begun [] = begun
open_line begun (b ∷ bs) = if b == 10 then open_line [] bs else open_line (with_byte begun b) bs

-- what is written at the bytes, from a session and a line that has begun
abbrev pub said : Sitting → List ℕ → List ℕ → List ℕ
said s begun bytes = replies s (ended_lines begun bytes)

abbrev pub sitting_at : Sitting → List ℕ → List ℕ → Sitting
sitting_at s begun bytes = after_lines s (ended_lines begun bytes)
