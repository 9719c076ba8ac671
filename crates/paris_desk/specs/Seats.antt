-- Seats as clauses see them.
use Rattle.std.specs.Prelude.{ℕ, zero, suc, List, [], ◌∷◌, ◌++◌, length}
use Rattle.paris_events.specs.declared.events.Event.{Event}
use Rattle.paris_events.specs.declared.events.Reply.{Reply}
use Rattle.paris_records.specs.declared.records.Entry.{Entry}
use Rattle.paris_records.specs.declared.records.Receipt.{Receipt}
use Rattle.paris_records.specs.History.{receipt}

-- a seat: its number, the receipts of its calls in order, how many entries of the history it has been told of, and its past, which is
-- the beginning of the history that it knows
pub record SeatState : Type 0 where
  pub number : ℕ
  pub receipts : List Receipt
  pub front : ℕ
  pub past : List Entry

abbrev pub sitting : ℕ → List Receipt → ℕ → List Entry → SeatState
sitting number receipts front past = record { number = number; receipts = receipts; front = front; past = past }

-- the seat after a recorded call, which is the last entry of a history
abbrev pub called : SeatState → List Entry → Event → Reply → SeatState
called s h event reply = sitting s.number (s.receipts ++ receipt s.number (length h) event reply ∷ []) (length h) h

-- the first seats of a new desk, in order
abbrev pub fresh : ℕ → List SeatState
fresh zero = []
fresh (suc n) = fresh n ++ sitting n [] 0 [] ∷ []
