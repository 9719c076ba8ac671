-- What a seat sees of the history of its desk while its part is played.
use Rattle.std.specs.Prelude.{◌≡◌, ◌<◌, ◌≤◌, ℕ, List, ◌++◌, length}
use Rattle.std.specs.List.{All}
use mathlib.Core.List.{IsPrefix}
use Rattle.paris_records.specs.declared.records.Entry.{Entry}
use Rattle.paris_records.specs.declared.records.Receipt.{Receipt}
use Rattle.paris_records.specs.Receipts.{receipts_in}
use Rattle.paris_desk.specs.Seats.{SeatState}

-- what a seat of a closed desk sees in its history at a line behind these calls of it: a beginning, which has of the seat's entries just
-- those, and all entries of the first seat, where it is another one
pub record SeesWhenClosed (history : List Entry) (seat : ℕ) (made : List Receipt) (seen : List Entry) : Type 0 where
  pub begins : IsPrefix seen history
  pub own : receipts_in seat 0 seen ≡ made
  pub first : 1 ≤ seat → receipts_in 0 0 seen ≡ receipts_in 0 0 history

-- a seat was told of all of its past, in which its calls are
abbrev pub IsInTime : SeatState → Type 0
IsInTime s = (length s.past ≤ s.front) × All (λ (r : Receipt). r.number ≤ length s.past) s.receipts

-- what a seat, which is left so, saw at a line behind these calls of it: a history that begins with what it knew at first, and with which
-- begins what it knows in the end. The calls of before are in it, and the later ones behind it
pub record Glimpses (first : List Entry) (s : SeatState) (made : List Receipt) (seen : List Entry) : Type 0 where
  pub begins : IsPrefix first seen
  pub past : IsPrefix seen s.past
  pub later : List Receipt
  pub receipts : s.receipts ≡ made ++ later
  pub before : All (λ (r : Receipt). r.number ≤ length seen) made
  pub behind : All (λ (r : Receipt). length seen < r.number) later
