-- What is done at a desk by its seats, each in a thread of its own: it plays a part, or works.
use Rattle.std.specs.Prelude.{◌≡◌, ◌≤◌, ℕ, List, [], ◌∷◌, length, slice_get, MatchOption, Option, Some, None, Result, Ok, Err, IfOk, IfErr}
use Rattle.std.specs.List.{All, AllZip, Contains}
use Rattle.paris_names.specs.declared.faults.Fault.{Fault}
use Rattle.paris_names.specs.declared.profiles.Profile.{Profile}
use Rattle.paris_records.specs.declared.limits.TheConstants.{MAX_HISTORY}
use Rattle.paris_records.specs.declared.records.Entry.{Entry}
use Rattle.paris_records.specs.declared.records.Receipt.{Receipt}
use Rattle.paris_desk.specs.Pasts.{Learned}
use Rattle.paris_desk.specs.Seats.{SeatState}
use Rattle.paris_desk.specs.Work.{Moves, Worked}
use Rattle.paris_session.specs.Hands.{Hand}
use Rattle.paris_parts.specs.Beginning.{hand_at}
use Rattle.paris_parts.specs.Faults.{StopsRun, rank}
use Rattle.paris_parts.specs.Hands.{HandPlays}
use Rattle.paris_parts.specs.Seeing.{Glimpses, IsInTime}

-- a seat, what it has in hand, and what was told at it
pub record Doing : Type 0 where
  pub seat : SeatState
  pub hand : Hand
  pub text : List ℕ

abbrev pub doing : SeatState → Hand → List ℕ → Doing
doing seat hand text = record { seat = seat; hand = hand; text = text }

-- nothing is done yet
abbrev pub begun_at : SeatState → Doing
begun_at seat = doing seat (hand_at seat) []

-- a part was played to its end in a profile, where such histories are seen, none before its first line
abbrev pub Played : Profile → (List Receipt → List Entry → Type 0) → List (List ℕ) → SeatState → Doing → Type 0
Played p Sees part s d = (rs : List Receipt) × Moves s d.seat rs × HandPlays p Sees s.receipts [] (hand_at s) part rs d.hand d.text × (d.hand.commands ≤ length part)

-- orders were run until no row was ready, or as many as a history may have entries
abbrev pub HasWorked : SeatState → SeatState → Type 0
HasWorked s s' = (ran : ℕ) × Worked MAX_HISTORY ran s s'

-- a seat has played the part of its number, and where there is none, it has worked
abbrev pub IsDone : Profile → (List Receipt → List Entry → Type 0) → List (List (List ℕ)) → SeatState → Doing → Type 0
IsDone p Sees parts s d = MatchOption (slice_get parts s.number) (HasWorked s d.seat) (λ part. Played p Sees part s d)

-- the same of a seat whose desk isn't closed
abbrev pub JobHasRun : Profile → List (List (List ℕ)) → SeatState → Doing → Type 0
JobHasRun p parts s d = MatchOption (slice_get parts s.number) (HasWorked s d.seat) (λ part. Played p (Glimpses s.past d.seat) part s d × IsInTime d.seat)

-- a job has run, at a desk whose history has room for so many entries, or a fault has ended it
abbrev pub HasRunIn : Profile → ℕ → List (List (List ℕ)) → Result Doing Fault → Result Doing Fault → Type 0
HasRunIn p limit parts job job' = IfOk job (λ begun. IfOk job' (λ d. JobHasRun p parts begun.seat d)) × IfErr job' (λ fault. StopsRun limit fault)

-- this fault ended one of the jobs, and none that ended another ranks above it; or no fault ended a job
abbrev pub IsWorst : List (Result Doing Fault) → Option Fault → Type 0
IsWorst jobs (Some fault) = Contains jobs (Err fault) × All (λ (job : Result Doing Fault). IfErr job (λ other. rank other ≤ rank fault)) jobs
IsWorst jobs None = All (λ (job : Result Doing Fault). IfErr job (λ other. ⊥)) jobs

-- a seat knows nothing
abbrev pub IsNew : SeatState → Type 0
IsNew s = (s.receipts ≡ []) × (s.past ≡ [])

-- a job of each seat, once it is told of all that the first one knows
abbrev pub AreTold : Profile → SeatState → List SeatState → List (Result Doing Fault) → Type 0
AreTold p first ss jobs = AllZip (λ s job. (s1 : SeatState) × Learned p s first s1 × (job ≡ Ok (begun_at s1))) ss jobs

-- a seat has run once it was told of all that the first one knew
abbrev pub RunsBehind : Profile → List (List (List ℕ)) → SeatState → SeatState → Doing → Type 0
RunsBehind p parts first s d = (s1 : SeatState) × Learned p s first s1 × JobHasRun p parts s1 d

-- the first seat has run, and then the others
abbrev pub AreDone : Profile → List (List (List ℕ)) → List SeatState → List Doing → Type 0
AreDone p parts (s ∷ ss) (d ∷ ds) = JobHasRun p parts s d × AllZip (RunsBehind p parts d.seat) ss ds
AreDone p parts _ _ = ⊥
