-- What a seat that works has of its calls.
use Rattle.std.specs.Prelude.{◌≡◌, ◌<◌, ◌≤◌, ◌⊎◌, ℕ, zero, suc, List, [], ◌∷◌, ◌++◌, length, Bool, true, false, Some, None}
use Rattle.std.specs.List.{All}
use mathlib.Core.List.{IsPrefix}
use Rattle.paris_exec.specs.Tasks.{Task}
use Rattle.paris_names.specs.declared.faults.Fault.{Fault}
use Rattle.paris_edits.specs.declared.verdicts.Verdict.{Verdict}
use Rattle.paris_events.specs.declared.events.Event.TheVariants as EventCase
use Rattle.paris_events.specs.declared.events.Reply.TheVariants as ReplyCase
use Rattle.paris_records.specs.declared.records.Entry.{Entry}
use Rattle.paris_records.specs.declared.records.Receipt.{Receipt}
use Rattle.paris_records.specs.History.{entry}
use Rattle.paris_desk.specs.Seats.{SeatState}
use Rattle.paris_desk.specs.Calls.{Excused}

-- a take that gave an order
abbrev pub Gave : Receipt → Task → Type 0
Gave r order = (r.event ≡ EventCase.Take) × (r.reply ≡ ReplyCase.Take (Some order))

-- a take that gave none
abbrev pub GaveNone : Receipt → Type 0
GaveNone r = (r.event ≡ EventCase.Take) × (r.reply ≡ ReplyCase.Take None)

-- a take that gave an order, and the bring of that order's result
abbrev pub IsPair : Receipt → Receipt → Type 0
IsPair taken brought = (order : Task) × (verdict : Verdict) × Gave taken order × (brought.event ≡ EventCase.Bring order) × (brought.reply ≡ ReplyCase.Bring verdict)

-- so many pairs, one after another
abbrev pub Pairs : ℕ → List Receipt → Type 0
Pairs zero rs = rs ≡ []
Pairs (suc k) [] = ⊥
Pairs (suc k) (taken ∷ []) = ⊥
Pairs (suc k) (taken ∷ brought ∷ rs) = IsPair taken brought × Pairs k rs

-- from a seat to the next there are these receipts more
abbrev pub Gained : SeatState → SeatState → List Receipt → Type 0
Gained s s' rs = (s'.number ≡ s.number) × (s'.receipts ≡ s.receipts ++ rs)

-- from a seat to the next there are these receipts more, of entries behind those that it was told of. It was told of no fewer since, and
-- its past has grown
pub record Moves (s s' : SeatState) (rs : List Receipt) : Type 0 where
  pub gained : Gained s s' rs
  pub begins : IsPrefix s.past s'.past
  pub front : s.front ≤ s'.front
  pub late : All (λ (r : Receipt). s.front < r.number) rs

-- a seat's past ends with the entry of this receipt, whose number is its front
abbrev pub EndsBy : Receipt → SeatState → Type 0
EndsBy r s = (before : List Entry) × (s.past ≡ before ++ entry s.number r.event r.reply ∷ []) × (r.number ≡ length s.past) × (s.front ≡ r.number)

-- from a seat to the next there are these receipts more: it knows what it knew where there is none, and else all up to its last call
abbrev pub KnowsTo : SeatState → SeatState → List Receipt → Type 0
KnowsTo s s' [] = (s'.past ≡ s.past) × (s'.front ≡ s.front)
KnowsTo s s' (r ∷ []) = EndsBy r s'
KnowsTo s s' (r ∷ q ∷ rs) = KnowsTo s s' (q ∷ rs)

-- a seat has moved by these calls alone
abbrev pub MovesBy : SeatState → SeatState → List Receipt → Type 0
MovesBy s s' rs = Moves s s' rs × KnowsTo s s' rs

-- one turn of work: an order was run, or there was none
abbrev pub Turn : Bool → SeatState → SeatState → Type 0
Turn true s s' = (taken : Receipt) × (brought : Receipt) × IsPair taken brought × MovesBy s s' (taken ∷ brought ∷ [])
Turn false s s' = (taken : Receipt) × GaveNone taken × MovesBy s s' (taken ∷ [])

-- what stands behind the pairs of a turn that failed: nothing, or the take of an order whose result was not brought
abbrev pub Left : List Receipt → Type 0
Left rs = (rs ≡ []) ⊎ ((taken : Receipt) × (order : Task) × Gave taken order × (rs ≡ taken ∷ []))

-- what stands behind so many pairs, where a limit is set: nothing at the limit, and below it a take that gave no order
abbrev pub Ends : ℕ → ℕ → List Receipt → Type 0
Ends limit ran rs = ((ran ≡ limit) × (rs ≡ [])) ⊎ ((ran < limit) × ((taken : Receipt) × GaveNone taken × (rs ≡ taken ∷ [])))

-- a seat has run so many orders, at most a limit, and fewer only where there was no more to run
pub record Worked (limit ran : ℕ) (s s' : SeatState) : Type 0 where
  pub few : ran ≤ limit
  pub pairs : List Receipt
  pub last : List Receipt
  pub are_pairs : Pairs ran pairs
  pub ends : Ends limit ran last
  pub moved : Moves s s' (pairs ++ last)
  pub knows : KnowsTo s s' (pairs ++ last)

-- a seat has run some orders, fewer than a limit, and then a call of it was not recorded, or memory for an execution was refused
pub record Stopped (limit most : ℕ) (s s' : SeatState) (fault : Fault) : Type 0 where
  pub ran : ℕ
  pub few : ran < limit
  pub pairs : List Receipt
  pub last : List Receipt
  pub are_pairs : Pairs ran pairs
  pub left : Left last
  pub moved : Moves s s' (pairs ++ last)
  pub knows : KnowsTo s s' (pairs ++ last)
  pub excused : Excused most s'.front fault
