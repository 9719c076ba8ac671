-- What who plays a part does with its seat.
use Rattle.std.specs.Prelude.{ℕ, Bool, true, false, List, []}
use Rattle.paris_names.specs.declared.faults.Fault.{Fault}
use Rattle.paris_names.specs.declared.faults.Fault.TheVariants.{StrangeSeat, NoEntry}
use Rattle.paris_names.specs.declared.profiles.Profile.{Profile}
use Rattle.paris_records.specs.declared.records.Entry.{Entry}
use Rattle.paris_records.specs.declared.records.Receipt.{Receipt}
use Rattle.paris_desk.specs.Seats.{SeatState}
use Rattle.paris_desk.specs.Work.{Moves}
use Rattle.paris_session.specs.declared.asked.Asked.{Asked}
use Rattle.paris_session.specs.Hands.{Hand}
use Rattle.paris_parts.specs.Hands.{Answers, AnswersAsked, HandPlays}
use Rattle.paris_parts.specs.Seeing.{Glimpses, IsInTime}
use Rattle.paris_parts.specs.Beginning.{hand_at}

-- whether a fault says that a seat met no history that it could look at
abbrev pub is_unmet : Fault → Bool
is_unmet NoEntry = true
is_unmet (StrangeSeat f l) = true
is_unmet _ = false

-- a seat has moved, and is in time then
abbrev pub MovesInTime : SeatState → SeatState → List Receipt → Type 0
MovesInTime s s' rs = Moves s s' rs × IsInTime s'

-- a seat has moved, and saw a history
abbrev pub MovesSeeing : SeatState → SeatState → List Receipt → List Entry → Type 0
MovesSeeing s s' rs seen = MovesInTime s s' rs × Glimpses s.past s' s.receipts seen

-- what is asked for is answered at a seat
abbrev pub Answered : Profile → SeatState → SeatState → Hand → Asked → Hand → List ℕ → Type 0
Answered p s s' h asked h' text = (rs : List Receipt) × (seen : List Entry) × MovesSeeing s s' rs seen × AnswersAsked p seen h asked rs h' text

-- a line is answered at a seat
abbrev pub HasAnswered : Profile → SeatState → SeatState → Hand → List ℕ → Hand → List ℕ → Type 0
HasAnswered p s s' h line h' text = (rs : List Receipt) × (seen : List Entry) × MovesSeeing s s' rs seen × Answers p seen h line rs h' text

-- lines are answered at a seat, one after another
abbrev pub HasPlayed : Profile → SeatState → SeatState → List (List ℕ) → Hand → List ℕ → Type 0
HasPlayed p s s' lines h text = (rs : List Receipt) × MovesInTime s s' rs × HandPlays p (Glimpses s.past s') s.receipts [] (hand_at s) lines rs h text
