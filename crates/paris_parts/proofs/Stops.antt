-- What stops a run at a desk, and which fault is told.
use Rattle.std.proofs.Common.{◌≡◌, ℕ, suc, ◌+◌, ◌<◌, ◌≤◌, Bool, true, false, List, [], ◌∷◌, ◌++◌, length, get_or, take, Option, None, Some, Result, Ok, Err, refl, sym, ap, ◌∙◌, subst, inl, inr, arith, length-append}
use Rattle.std.specs.Prelude.{IfErr, IsErrAnd, nat_lt, if◌then◌else◌}
use Rattle.std.specs.List.{All, Contains}
use Rattle.std.proofs.Math.Seq.{get_or-append_seam}
use Rattle.std.proofs.lemmas.Bool.Decides.{nat_tests}
use Rattle.std.proofs.lemmas.List.{get_or_append_left, take_more}
use Rattle.std.proofs.lemmas.List.Elements.{All-cons, All-get_or, All-nil}
use Rattle.paris_names.specs.Faults.{is_no_memory}
use Rattle.paris_names.specs.declared.faults.Fault.{Fault}
use Rattle.paris_names.specs.declared.faults.Fault.TheVariants as faults
use Rattle.paris_names.specs.declared.ids.Spot.{Spot}
use Rattle.paris_names.specs.declared.names.KeyName.{KeyName}
use Rattle.paris_session.specs.declared.run.RunFault.TheVariants as run_faults
use Rattle.paris_desk.specs.Calls.{Excused, Unrecorded}
use Rattle.paris_desk.specs.Seats.{SeatState}
use Rattle.paris_desk.specs.Work.{Stopped}
use Rattle.paris_desk.specs.declared.closing.Cause.{Cause}
use Rattle.paris_desk.specs.declared.closing.Cause.TheVariants as causes
use Rattle.paris_desk.proofs.Moving.{all_both, all_so}
use Rattle.paris_names.specs.declared.profiles.Profile.{Profile}
use Rattle.paris_view.specs.Looks.{Missed}
use Rattle.paris_parts.specs.Faults.{StopsRun, closing_fault, rank, worse}
use Rattle.paris_parts.specs.Jobs.{Doing, HasRunIn, IsWorst}
use Rattle.paris_parts.specs.Moving.{is_unmet}
use Rattle.paris_parts.specs.Run.{IsPlayable, StoppedBy}
use Rattle.paris_parts.specs.declared.run.DeskRunFault.{DeskRunFault}
use Rattle.paris_parts.specs.declared.run.DeskRunFault.TheVariants as desk_faults

pub memory_stops : (limit : ℕ) (fault : Fault) → fault ≡ faults.NoMemory → StopsRun limit fault
memory_stops limit fault is = subst (StopsRun limit) (sym is) tt

excused_stops : (limit front : ℕ) (fault : Fault) → Excused limit front fault → StopsRun limit fault
excused_stops limit front fault (inl (l, is, less)) = subst (StopsRun limit) (sym is) less
excused_stops limit front fault (inr (inl is)) = subst (StopsRun limit) (sym is) refl
excused_stops limit front fault (inr (inr is)) = memory_stops limit fault is

-- a call that isn't recorded stops a run
pub unrecorded_stops : (limit : ℕ) (s s' : SeatState) (fault : Fault) → Unrecorded limit s s' fault → StopsRun limit fault
unrecorded_stops limit s s' fault unrecorded = excused_stops limit s.front fault unrecorded.1

pub work_stops : (limit most : ℕ) (s s' : SeatState) (fault : Fault) → Stopped limit most s s' fault → StopsRun most fault
work_stops limit most s s' fault stopped = excused_stops most s'.front fault stopped.excused

-- so does a look that meets no history
pub unmet_stops : (p : Profile) (limit : ℕ) (name : KeyName) (spot : Spot) (s s' : SeatState) (fault : Fault) → is_unmet fault ≡ true → Missed p name spot s s' fault → StopsRun limit fault
unmet_stops p limit name spot s s' fault unmet missed = by_fault fault unmet missed
  where
    by_fault : (f : Fault) → is_unmet f ≡ true → Missed p name spot s s' f → StopsRun limit f
    by_fault faults.NoEntry met missed = tt
    by_fault (faults.StrangeSeat f l) met missed = let told = missed.told in omega (arith, told.0, told.1)
    by_fault faults.SetsFull met missed = absurd (let e : false ≡ true = met in cc)
    by_fault faults.BadAxes met missed = absurd (let e : false ≡ true = met in cc)
    by_fault faults.NameTaken met missed = absurd (let e : false ≡ true = met in cc)
    by_fault faults.NoSet met missed = absurd (let e : false ≡ true = met in cc)
    by_fault faults.FieldsFull met missed = absurd (let e : false ≡ true = met in cc)
    by_fault faults.BadWidth met missed = absurd (let e : false ≡ true = met in cc)
    by_fault faults.NoField met missed = absurd (let e : false ≡ true = met in cc)
    by_fault faults.WrongCount met missed = absurd (let e : false ≡ true = met in cc)
    by_fault (faults.TooWide n) met missed = absurd (let e : false ≡ true = met in cc)
    by_fault faults.NoRow met missed = absurd (let e : false ≡ true = met in cc)
    by_fault faults.RowsFull met missed = absurd (let e : false ≡ true = met in cc)
    by_fault faults.BadLength met missed = absurd (let e : false ≡ true = met in cc)
    by_fault faults.WrongSet met missed = absurd (let e : false ≡ true = met in cc)
    by_fault faults.BadAxis met missed = absurd (let e : false ≡ true = met in cc)
    by_fault faults.BadOperand met missed = absurd (let e : false ≡ true = met in cc)
    by_fault faults.Overlap met missed = absurd (let e : false ≡ true = met in cc)
    by_fault faults.EditionsSpent met missed = absurd (let e : false ≡ true = met in cc)
    by_fault (faults.HistoryFull n) met missed = absurd (let e : false ≡ true = met in cc)
    by_fault faults.NoMemory met missed = absurd (let e : false ≡ true = met in cc)
    by_fault (faults.Syntax n) met missed = absurd (let e : false ≡ true = met in cc)
    by_fault faults.NoOrder met missed = absurd (let e : false ≡ true = met in cc)

-- and so does a desk that isn't closed
pub closing_stops : (limit : ℕ) (cause : Cause) (fault : Fault) → fault ≡ closing_fault cause → StopsRun limit fault
closing_stops limit (causes.Missing n) fault is = subst (StopsRun limit) (sym is) tt
closing_stops limit (causes.Ahead n len) fault is = subst (StopsRun limit) (sym is) tt
closing_stops limit causes.NoMemory fault is = memory_stops limit fault is

-- a fault that a call hands on
pub ended_by : {X : Type 0} {Q : Fault → Type 0} (limit : ℕ) (r : Result X Fault) → IsErrAnd r Q → ((fault : Fault) → Q fault → StopsRun limit fault) → IfErr r (λ fault. StopsRun limit fault)
ended_by limit (Ok x) h so = absurd h
ended_by limit (Err fault) h so = so fault h

-- what stopped a run whose parts fit is told
pub told_by : (limit workers : ℕ) (script : List ℕ) (fault : Fault) (told : DeskRunFault) → IsPlayable workers script → StopsRun limit fault
    → told ≡ (if is_no_memory fault then desk_faults.Run run_faults.NoMemory else desk_faults.Desk fault) → StoppedBy limit workers script told
told_by limit workers script fault told fit stops is = by_test (is_no_memory fault) refl is
  where
    by_test : (b : Bool) → is_no_memory fault ≡ b → told ≡ (if b then desk_faults.Run run_faults.NoMemory else desk_faults.Desk fault) → StoppedBy limit workers script told
    by_test true wants told_is = subst (StoppedBy limit workers script) (sym told_is) refl
    by_test false other told_is = subst (StoppedBy limit workers script) (sym told_is) (fit, stops, other)

abbrev Job : Type 0
Job = Result Doing Fault

-- a fault that ended a job ranks no higher
abbrev UpTo : ℕ → Job → Type 0
UpTo n job = IfErr job (λ other. rank other ≤ n)

abbrev IsWell : Job → Type 0
IsWell job = IfErr job (λ other. ⊥)

up_to : (n m : ℕ) → n ≤ m → (job : Job) → UpTo n job → UpTo m job
up_to n m more (Ok d) low = tt
up_to n m more (Err fault) low = omega (arith, low, more)

well_up_to : (n : ℕ) (job : Job) → IsWell job → UpTo n job
well_up_to n (Ok d) well = tt
well_up_to n (Err fault) well = absurd well

contains_more : (jobs more : List Job) (job : Job) → Contains jobs job → Contains (jobs ++ more) job
contains_more jobs more job (k, within, at) = (
  k,
  (let long = length-append jobs more in omega (arith, long, within)),
  get_or_append_left jobs more job k within ∙ at,
)

contains_last : (jobs : List Job) (job : Job) → Contains (jobs ++ job ∷ []) job
contains_last jobs job = (
  length jobs,
  (let long = length-append jobs (job ∷ []) in omega (arith, long)),
  get_or-append_seam jobs job [] job,
)

pub worst_none : IsWorst [] None
worst_none = All-nil IsWell

-- a job more, which no fault has ended
pub worst_well : (jobs : List Job) (d : Doing) (worst : Option Fault) → IsWorst jobs worst → IsWorst (jobs ++ Ok d ∷ []) worst
worst_well jobs d None well = all_both IsWell jobs (Ok d ∷ []) well (All-cons IsWell (Ok d) [] tt (All-nil IsWell))
worst_well jobs d (Some fault) (here, low) = (
  contains_more jobs (Ok d ∷ []) (Err fault) here,
  all_both (UpTo (rank fault)) jobs (Ok d ∷ []) low (All-cons (UpTo (rank fault)) (Ok d) [] tt (All-nil (UpTo (rank fault)))),
)

-- a job more, which a fault has ended
pub worst_ended : (jobs : List Job) (next : Fault) (worst : Option Fault) → IsWorst jobs worst → IsWorst (jobs ++ Err next ∷ []) (Some (worse worst next))
worst_ended jobs next None well = (
  contains_last jobs (Err next),
  all_both (UpTo (rank next)) jobs (Err next ∷ []) (all_so IsWell (UpTo (rank next)) jobs (well_up_to (rank next)) well)
      (All-cons (UpTo (rank next)) (Err next) [] (omega arith) (All-nil (UpTo (rank next)))),
)
worst_ended jobs next (Some fault) (here, low) = by_test (nat_lt (rank fault) (rank next)) refl
  where
    by_test : (b : Bool) → nat_lt (rank fault) (rank next) ≡ b → IsWorst (jobs ++ Err next ∷ []) (Some (if b then next else fault))
    by_test true is =
        let above : rank fault < rank next = grind (arith, nat_tests, is) in (
          contains_last jobs (Err next),
          all_both (UpTo (rank next)) jobs (Err next ∷ []) (all_so (UpTo (rank fault)) (UpTo (rank next)) jobs (up_to (rank fault) (rank next) (omega (arith, above))) low)
              (All-cons (UpTo (rank next)) (Err next) [] (omega arith) (All-nil (UpTo (rank next)))),
        )
    by_test false is =
        let under : rank next ≤ rank fault = grind (arith, nat_tests, is) in (
          contains_more jobs (Err next ∷ []) (Err fault) here,
          all_both (UpTo (rank fault)) jobs (Err next ∷ []) low (All-cons (UpTo (rank fault)) (Err next) [] under (All-nil (UpTo (rank fault)))),
        )

-- the next job in a list, which a fault has ended, or none
pub worst_next_ended : (jobs : List Job) (i : ℕ) (job : Job) (next : Fault) (worst worst' : Option Fault) → i < length jobs → job ≡ get_or jobs i job → job ≡ Err next → worst' ≡ Some (worse worst next)
    → IsWorst (take i jobs) worst → IsWorst (take (i + 1) jobs) worst'
worst_next_ended jobs i job next worst worst' within at is told before =
    subst (λ (l : List Job). IsWorst l worst') (sym (take_more jobs i job within ∙ ap (λ (x : Job). take i jobs ++ x ∷ []) (sym at ∙ is)))
    (subst (IsWorst (take i jobs ++ Err next ∷ [])) (sym told) (worst_ended (take i jobs) next worst before))

pub worst_next_well : (jobs : List Job) (i : ℕ) (job : Job) (d : Doing) (worst worst' : Option Fault) → i < length jobs → job ≡ get_or jobs i job → job ≡ Ok d → worst' ≡ worst
    → IsWorst (take i jobs) worst → IsWorst (take (i + 1) jobs) worst'
worst_next_well jobs i job d worst worst' within at is told before =
    subst (λ (l : List Job). IsWorst l worst') (sym (take_more jobs i job within ∙ ap (λ (x : Job). take i jobs ++ x ∷ []) (sym at ∙ is)))
    (subst (IsWorst (take i jobs ++ Ok d ∷ [])) (sym told) (worst_well (take i jobs) d worst before))

-- a job that is ended is ended by what stops a run
abbrev pub EndsSo : ℕ → Result Doing Fault → Type 0
EndsSo limit job = IfErr job (λ fault. StopsRun limit fault)

pub worst_stops : (limit : ℕ) (jobs : List Job) (fault : Fault) → IsWorst jobs (Some fault) → All (EndsSo limit) jobs → StopsRun limit fault
worst_stops limit jobs fault ((k, within, at), low) ends =
    let there : EndsSo limit (get_or jobs k (Err fault)) = All-get_or (EndsSo limit) jobs k (Err fault) within ends in
    subst (EndsSo limit) at there

-- where jobs have run, each that is ended is ended so
pub all_end_so : (p : Profile) (limit : ℕ) (parts : List (List (List ℕ))) (jobs jobs' : List Job) → ((i : ℕ) (d : Job) → i < length jobs → HasRunIn p limit parts (get_or jobs i d) (get_or jobs' i d))
    → length jobs' ≡ length jobs → All (EndsSo limit) jobs'
all_end_so p limit parts jobs [] each long = All-nil (EndsSo limit)
all_end_so p limit parts [] (job' ∷ jobs') each long = absurd (omega (arith, long))
all_end_so p limit parts (job ∷ jobs) (job' ∷ jobs') each long =
    All-cons (EndsSo limit) job' jobs' (each 0 job (omega arith)).1
    (all_end_so p limit parts jobs jobs' (λ i d within. each (suc i) d (omega (arith, within))) (omega (arith, long)))
