-- What is left of a closed desk, and why a desk is not closed.
use Rattle.std.specs.Prelude.{◌≡◌, ◌<◌, ◌≤◌, ◌==◌, ℕ, zero, suc, Bool, true, false, List, [], ◌∷◌, ◌++◌, length, if◌then◌else◌}
use Rattle.std.specs.List.{list_any}
use Rattle.paris_records.specs.declared.records.Entry.{Entry}
use Rattle.paris_records.specs.declared.records.Receipt.{Receipt}
use Rattle.paris_desk.specs.declared.closing.Cause.{Cause}
use Rattle.paris_desk.specs.declared.closing.Cause.TheVariants.{Missing, Ahead, NoMemory}
use Rattle.paris_desk.specs.Seats.{SeatState}

-- whether one of these seats has a number
abbrev pub has_seat : ℕ → List SeatState → Bool
has_seat n ss = list_any (λ (s : SeatState). s.number == n) ss

-- the receipts of the first of these seats that has a number
abbrev pub receipts_of : ℕ → List SeatState → List Receipt
receipts_of n [] = []
receipts_of n (s ∷ ss) = if s.number == n then s.receipts else receipts_of n ss

-- its past
abbrev pub past_of : ℕ → List SeatState → List Entry
past_of n [] = []
past_of n (s ∷ ss) = if s.number == n then s.past else past_of n ss

-- of each number below a count, in order, the receipts of the seat that has it
abbrev pub by_number : ℕ → List SeatState → List (List Receipt)
by_number zero ss = []
by_number (suc n) ss = by_number n ss ++ receipts_of n ss ∷ []

-- each number below a count is that of one of these seats
abbrev pub AreHere : ℕ → List SeatState → Type 0
AreHere count ss = (n : ℕ) → n < count → has_seat n ss ≡ true

-- no seat of a number below a count knows more than so many entries
abbrev pub AreWithin : ℕ → ℕ → List SeatState → Type 0
AreWithin count len ss = (n : ℕ) → n < count → length (past_of n ss) ≤ len

-- of the seats that know more than so many entries this is the least number
abbrev pub IsAhead : ℕ → ℕ → List SeatState → Type 0
IsAhead n len ss = (len < length (past_of n ss)) × AreWithin n len ss

-- why a desk with so many seats is not closed, where these are handed in: of the missing numbers this is the least, or none is missing
-- and memory is refused, or none is missing and of the seats that know more than the history has this is the least
abbrev pub Hinders : ℕ → List SeatState → Cause → Type 0
Hinders count ss (Missing n) = (n < count) × (has_seat n ss ≡ false) × AreHere n ss
Hinders count ss (Ahead n len) = AreHere count ss × (n < count) × IsAhead n len ss
Hinders count ss NoMemory = AreHere count ss

-- whether a desk comes back as it was with a cause: to see that a seat is ahead it is opened
abbrev pub is_unopened : Cause → Bool
is_unopened (Missing n) = true
is_unopened (Ahead n len) = false
is_unopened NoMemory = true
