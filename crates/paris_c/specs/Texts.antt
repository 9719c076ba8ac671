-- What statuses and causes are called in words.
use Rattle.std.specs.Prelude.{ℕ, List, [], codes, if◌then◌else◌, ◌==◌}

-- the text of a status: that of a fault by its number, or that of a status of the library; no other number has one
abbrev pub status_text : ℕ → List ℕ
status_text status =
    if status == 1 then codes "as many sets as a board may have are declared"
    else if status == 2 then codes "the lengths of the axes make no geometry"
    else if status == 3 then codes "a set or a field has this name"
    else if status == 4 then codes "no set has this name"
    else if status == 5 then codes "as many fields as a board may have are declared"
    else if status == 6 then codes "the width is 0 or above the greatest one"
    else if status == 7 then codes "no field has this name, or no set has the name before the dot"
    else if status == 8 then codes "there are no values, or more than fit from the first place on"
    else if status == 9 then codes "a value does not fit the width"
    else if status == 10 then codes "no row has this id"
    else if status == 11 then codes "the program has as many rows as it may have"
    else if status == 12 then codes "a length is 0, or above the width of an operand"
    else if status == 13 then codes "fields of two sets are named"
    else if status == 14 then codes "the set has no axis of this number"
    else if status == 15 then codes "an operand of one bit is wider, a constant is too great, or a coordinate is outside its axis"
    else if status == 16 then codes "the notify field is the destination"
    else if status == 17 then codes "the edit counter is at its greatest value"
    else if status == 18 then codes "the history has as many entries as it may have"
    else if status == 19 then codes "there is no memory left"
    else if status == 20 then codes "the line is not in the grammar"
    else if status == 21 then codes "the seat has seen more entries than the history has"
    else if status == 22 then codes "no order has this number"
    else if status == 23 then codes "a look found no entry"
    else if status == 101 then codes "the handle is closed"
    else if status == 102 then codes "the word is no key"
    else if status == 103 then codes "a row has to be settled first"
    else if status == 104 then codes "the room has another number of words than what is to be put there"
    else if status == 105 then codes "the script is too long, or the session has answered as many lines as it can count"
    else if status == 106 then codes "a number is wider than a word"
    else if status == 107 then codes "there was no memory left while rows were settled: those that ran are settled"
    else if status == 108 then codes "no profile has this number"
    else if status == 109 then codes "no row is ready"
    else if status == 110 then codes "the order is not executed"
    else if status == 111 then codes "the two values differ in width or in the number of their processors"
    else if status == 112 then codes "the line is no event of a desk"
    else if status == 113 then codes "the seat is of another desk"
    else []

-- the text of a cause, by its number; no other number has one
abbrev pub cause_text : ℕ → List ℕ
cause_text cause =
    if cause == 1 then codes "two messages meet at a processor"
    else if cause == 2 then codes "a processor holds an address outside its set"
    else []
