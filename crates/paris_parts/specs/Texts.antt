-- What is written for parts that are played, and for a history that is closed.
use Rattle.std.specs.Prelude.{ℕ, zero, suc, ◌+◌, Bool, true, false, List, [], ◌∷◌, ◌++◌, codes, slice_index_or, if◌then◌else◌}
use Rattle.std.specs.Fmt.{decimal}
use Rattle.paris_events.specs.declared.events.Event.{Event}
use Rattle.paris_events.specs.declared.events.Event.TheVariants as event
use Rattle.paris_records.specs.declared.records.Entry.{Entry}
use Rattle.paris_desk.specs.Seats.{sitting}
use Rattle.paris_parts.specs.Jobs.{Doing, begun_at}

-- the line before what a part writes, by its number: the first has none
abbrev pub head_line : ℕ → List ℕ
head_line zero = []
head_line (suc n) = codes "session " ++ (decimal (suc n) ++ codes "\n")

-- what is done at a seat, by its number
abbrev pub at_seat : List Doing → ℕ → Doing
at_seat ds n = slice_index_or ds n (begun_at (sitting n [] 0 []))

-- what the first so many parts write
abbrev pub parts_text : List Doing → ℕ → List ℕ
parts_text ds zero = []
parts_text ds (suc n) = parts_text ds n ++ (head_line n ++ (at_seat ds n).text)

-- how many commands they have, and how many of them are refused
abbrev pub commands_in : List Doing → ℕ → ℕ
commands_in ds zero = 0
commands_in ds (suc n) = commands_in ds n + (at_seat ds n).hand.commands

abbrev pub refusals_in : List Doing → ℕ → ℕ
refusals_in ds zero = 0
refusals_in ds (suc n) = refusals_in ds n + (at_seat ds n).hand.refusals

abbrev pub is_edit : Event → Bool
is_edit (event.Edit e) = true
is_edit _ = false

-- how many edits a history has, with those that were refused
abbrev pub edits_in : List Entry → ℕ
edits_in [] = 0
edits_in (e ∷ es) = (if is_edit e.event then 1 else 0) + edits_in es

-- what is written of a history that is closed
abbrev pub closed_text : ℕ → Bool → List ℕ
closed_text edits agree = codes "close\nedits " ++ (decimal edits ++ (if agree then codes "\naudit yes\n" else codes "\naudit no\n"))
