-- The number of each fault.
use Rattle.std.specs.Prelude.{◌≡◌, ℕ, Bool, true, false, Option, Some, None}
use Rattle.paris_names.specs.declared.faults.Fault.{Fault}
use Rattle.paris_names.specs.declared.faults.Fault.TheVariants.{SetsFull, BadAxes, NameTaken, NoSet, FieldsFull, BadWidth, NoField, WrongCount, TooWide, NoRow, RowsFull, BadLength, WrongSet, BadAxis, BadOperand, Overlap, EditionsSpent, HistoryFull, NoMemory, Syntax, StrangeSeat, NoOrder, NoEntry}

abbrev pub number_of : Fault → ℕ
number_of SetsFull = 1
number_of BadAxes = 2
number_of NameTaken = 3
number_of NoSet = 4
number_of FieldsFull = 5
number_of BadWidth = 6
number_of NoField = 7
number_of WrongCount = 8
number_of (TooWide a) = 9
number_of NoRow = 10
number_of RowsFull = 11
number_of BadLength = 12
number_of WrongSet = 13
number_of BadAxis = 14
number_of BadOperand = 15
number_of Overlap = 16
number_of EditionsSpent = 17
number_of (HistoryFull a) = 18
number_of NoMemory = 19
number_of (Syntax a) = 20
number_of (StrangeSeat a b) = 21
number_of NoOrder = 22
number_of NoEntry = 23

-- whether a fault is want of memory
abbrev pub is_no_memory : Fault → Bool
is_no_memory NoMemory = true
is_no_memory _ = false

-- what a refusal answers: the fault that is due, or want of memory where none is
abbrev pub IsFaultOf : Option Fault → Fault → Type 0
IsFaultOf (Some due) fault = fault ≡ due
IsFaultOf None fault = fault ≡ NoMemory
