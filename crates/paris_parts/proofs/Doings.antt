-- Jobs that are done one after another, and at once.
use Rattle.std.proofs.Common.{◌≡◌, ℕ, suc, ◌+◌, ◌<◌, ◌≤◌, List, [], ◌∷◌, ◌++◌, length, get_or, drop, take, map, Ok, Err, Vec, Global, refl, sym, ap, ◌∙◌, subst, arith, append_assoc, append-nil}
use Rattle.std.specs.Prelude.{Result, IfOk}
use Rattle.std.specs.List.{All, AllZip}
use Rattle.std.proofs.lemmas.List.{map-append, take_more}
use Rattle.std.proofs.lemmas.List.Elements.{All-cons, All-head, All-nil, All-tail}
use Rattle.paris_names.specs.declared.faults.Fault.{Fault}
use Rattle.paris_names.specs.declared.profiles.Profile.{Profile}
use Rattle.paris_records.specs.declared.records.Receipt.{Receipt}
use Rattle.paris_desk.specs.Pasts.{Learned}
use Rattle.paris_desk.specs.Seats.{SeatState}
use Rattle.paris_parts.specs.Jobs.{AreDone, AreTold, Doing, JobHasRun, HasRunIn, IsNew, RunsBehind, begun_at}
use Rattle.paris_parts.specs.Seeing.{IsInTime}

-- an item is moved from those that are left to those that are done
pub moved : {X Y : Type 0} (f : X → Y) (done : List Y) (x : X) (before rest : List X) (out : List Y) → before ≡ x ∷ rest → done ++ map f before ≡ out
    → (done ++ f x ∷ []) ++ map f rest ≡ out
moved f done x before rest out first same = append_assoc done (f x ∷ []) (map f rest) ∙ ap (λ l. done ++ map f l) (sym first) ∙ same

-- where none is left, all are done
pub moved_all : {X Y : Type 0} (f : X → Y) (done : List Y) (left : List X) (out : List Y) → left ≡ [] → done ++ map f left ≡ out → done ≡ out
moved_all f done left out none same = sym (append-nil done) ∙ ap (λ l. done ++ map f l) (sym none) ∙ same

-- the lines of a part, one more
pub lines_more : (ls : List (Vec ℕ Global)) (i : ℕ) (line : Vec ℕ Global) → i < length ls → line ≡ get_or ls i line
    → map (λ (v : Vec ℕ Global). v.items) (take (i + 1) ls) ≡ map (λ (v : Vec ℕ Global). v.items) (take i ls) ++ line.items ∷ []
lines_more ls i line within is =
    let f : Vec ℕ Global → List ℕ = λ v. v.items in
    ap (map f) (take_more ls i line within ∙ ap (λ (x : Vec ℕ Global). take i ls ++ x ∷ []) (sym is)) ∙ map-append f (take i ls) (line ∷ [])

-- a job is told of all that the first seat knows
abbrev pub IsTold : Profile → SeatState → SeatState → Result Doing Fault → Type 0
IsTold p first s job = (s1 : SeatState) × Learned p s first s1 × (job ≡ Ok (begun_at s1))

pub told_one : (p : Profile) (first s s1 : SeatState) (job : Result Doing Fault) → Learned p s first s1 → job ≡ Ok (begun_at s1) → IsTold p first s job
told_one p first s s1 job learned is = (s1, learned, is)

zip_more : {A B : Type 0} (R : A → B → Type 0) (xs : List A) (ys : List B) (x : A) (y : B) → AllZip R xs ys → R x y → AllZip R (xs ++ x ∷ []) (ys ++ y ∷ [])
zip_more R [] [] x y h r = (r, tt)
zip_more R [] (b ∷ ys) x y h r = absurd h
zip_more R (a ∷ xs) [] x y h r = absurd h
zip_more R (a ∷ xs) (b ∷ ys) x y h r = (h.0, zip_more R xs ys x y h.1 r)

-- the seats that were told, which stand before those that are left
abbrev pub AreBegun : Profile → SeatState → List SeatState → List SeatState → List (Result Doing Fault) → Type 0
AreBegun p first ss left jobs = (gone : List SeatState) × (gone ++ left ≡ ss) × AllZip (IsTold p first) gone jobs

pub begun_none : (p : Profile) (first : SeatState) (ss : List SeatState) → AreBegun p first ss ss []
begun_none p first ss = ([], refl, tt)

pub begun_more : (p : Profile) (first s s1 : SeatState) (ss before left : List SeatState) (jobs jobs' : List (Result Doing Fault)) → before ≡ s ∷ left → Learned p s first s1 → jobs' ≡ jobs ++ Ok (begun_at s1) ∷ []
    → AreBegun p first ss before jobs → AreBegun p first ss left jobs'
begun_more p first s s1 ss before left jobs jobs' next learned more (gone, all, told) = (
  gone ++ s ∷ [],
  append_assoc gone (s ∷ []) left ∙ ap (λ (l : List SeatState). gone ++ l) (sym next) ∙ all,
  subst (AllZip (IsTold p first) (gone ++ s ∷ [])) (sym more) (zip_more (IsTold p first) gone jobs s (Ok (begun_at s1)) told (s1, learned, refl)),
)

pub begun_all : (p : Profile) (first : SeatState) (ss left : List SeatState) (jobs : List (Result Doing Fault)) → left ≡ [] → AreBegun p first ss left jobs → AreTold p first ss jobs
begun_all p first ss left jobs none (gone, all, told) =
    subst (λ (l : List SeatState). AllZip (IsTold p first) l jobs) (sym (append-nil gone) ∙ ap (λ (l : List SeatState). gone ++ l) (sym none) ∙ all) told

-- a seat that knew nothing is in time once it is told
told_in_time : (p : Profile) (first s s1 : SeatState) → IsNew s → Learned p s first s1 → IsInTime s1
told_in_time p first s s1 new l =
    let none : s1.receipts ≡ [] = l.same.1 ∙ new.0 in
    let front = l.front in
    (omega (arith, front), subst (All (λ (r : Receipt). r.number ≤ length s1.past)) (sym none) (All-nil (λ (r : Receipt). r.number ≤ length s1.past)))

abbrev BegunInTime : Result Doing Fault → Type 0
BegunInTime job = IfOk job (λ begun. IsInTime begun.seat)

pub told_all_in_time : (p : Profile) (first : SeatState) (ss : List SeatState) (jobs : List (Result Doing Fault)) → All IsNew ss → AreTold p first ss jobs → All (λ (job : Result Doing Fault). IfOk job (λ begun. IsInTime begun.seat)) jobs
told_all_in_time p first [] [] new told = All-nil BegunInTime
told_all_in_time p first [] (job ∷ jobs) new told = absurd told
told_all_in_time p first (s ∷ ss) [] new told = absurd told
told_all_in_time p first (s ∷ ss) (job ∷ jobs) new ((s1, learned, is), told) =
    All-cons BegunInTime job jobs (subst BegunInTime (sym is) (told_in_time p first s s1 (All-head IsNew s ss new) learned))
    (told_all_in_time p first ss jobs (All-tail IsNew s ss new) told)

-- what was told and then run has run behind the first seat
pub ran_behind : (p : Profile) (limit : ℕ) (parts : List (List (List ℕ))) (first : SeatState) (ss : List SeatState) (jobs jobs' : List (Result Doing Fault)) (ds : List Doing) → AreTold p first ss jobs
    → ((i : ℕ) (d : Result Doing Fault) → i < length jobs → HasRunIn p limit parts (get_or jobs i d) (get_or jobs' i d)) → length jobs' ≡ length jobs → map Ok ds ≡ jobs' → AllZip (RunsBehind p parts first) ss ds
ran_behind p limit parts first [] [] jobs' [] told each long all = tt
ran_behind p limit parts first [] [] jobs' (d ∷ ds) told each long all = absurd (let same = ap length all in omega (arith, same, long))
ran_behind p limit parts first [] (job ∷ jobs) jobs' ds told each long all = absurd told
ran_behind p limit parts first (s ∷ ss) [] jobs' ds told each long all = absurd told
ran_behind p limit parts first (s ∷ ss) (job ∷ jobs) jobs' [] told each long all = absurd (let same = ap length all in omega (arith, same, long))
ran_behind p limit parts first (s ∷ ss) (job ∷ jobs) jobs' (d ∷ ds) ((s1, learned, is), told) each long all =
    let ran : HasRunIn p limit parts job (Ok d) = subst (λ (l : List (Result Doing Fault)). HasRunIn p limit parts job (get_or l 0 job)) (sym all) (each 0 job (omega arith)) in
    let here : JobHasRun p parts s1 d = (subst (λ (x : Result Doing Fault). HasRunIn p limit parts x (Ok d)) is ran).0 in (
      (s1, learned, here),
      ran_behind p limit parts first ss jobs (map Ok ds) ds told
          (λ i e within. (subst (λ (l : List (Result Doing Fault)). HasRunIn p limit parts (get_or jobs i e) (get_or l (suc i) e)) (sym all) (each (suc i) e (omega (arith, within)))))
          (let same = ap length all in omega (arith, same, long)) refl,
    )

-- the first job and the others are done
pub are_done : (p : Profile) (limit : ℕ) (parts : List (List (List ℕ))) (seats rest : List SeatState) (s : SeatState) (d : Doing) (jobs jobs' : List (Result Doing Fault)) (ds : List Doing) → seats ≡ s ∷ rest → JobHasRun p parts s d
    → AreTold p d.seat rest jobs → ((i : ℕ) (e : Result Doing Fault) → i < length jobs → HasRunIn p limit parts (get_or jobs i e) (get_or jobs' i e)) → length jobs' ≡ length jobs
    → map Ok ds ≡ Ok d ∷ jobs' → AreDone p parts seats ds
are_done p limit parts seats rest s d jobs jobs' [] are run told each long all = absurd (let same = ap length all in omega (arith, same))
are_done p limit parts seats rest s d jobs jobs' (d' ∷ ds) are run told each long all =
    let first : d' ≡ d = cc in
    let others : map Ok ds ≡ jobs' = cc in
    subst (λ (l : List SeatState). AreDone p parts l (d' ∷ ds)) (sym are)
    (subst (λ (x : Doing). JobHasRun p parts s x × AllZip (RunsBehind p parts x.seat) rest ds) (sym first) (run, ran_behind p limit parts d.seat rest jobs jobs' ds told each long others))

-- a list of seats by its first one
pub first_seat : (seats rest : List SeatState) (s : SeatState) → 1 ≤ length seats → s ≡ get_or seats 0 s → rest ≡ drop 1 seats → seats ≡ s ∷ rest
first_seat [] rest s some at is = absurd (omega (arith, some))
first_seat (a ∷ seats) rest s some at is = λ i. sym at i ∷ sym is i

pub new_rest : (seats : List SeatState) → All IsNew seats → All IsNew (drop 1 seats)
new_rest [] new = All-nil IsNew
new_rest (s ∷ seats) new = All-tail IsNew s seats new

pub all_done : (p : Profile) (parts : List (List (List ℕ))) (seats : List SeatState) (d : Doing) (jobs : List (Result Doing Fault)) (result : Result (Vec Doing Global) Fault)
    → IfOk result (λ all. map Ok all.items ≡ Ok d ∷ jobs) → ((ds : List Doing) → map Ok ds ≡ Ok d ∷ jobs → AreDone p parts seats ds) → IfOk result (λ all. AreDone p parts seats all.items)
all_done p parts seats d jobs (Ok all) same done = done all.items same
all_done p parts seats d jobs (Err fault) same done = tt

-- one job more of those that no fault has ended
pub together_next : {X E : Type 0} (done done' : List X) (job : Result X E) (d : X) (before rest all : List (Result X E)) → before ≡ job ∷ rest → job ≡ Ok d → done' ≡ done ++ d ∷ []
    → map Ok done ++ before ≡ all → map Ok done' ++ rest ≡ all
together_next done done' job d before rest all next is longer same =
    ap (λ l. map Ok l ++ rest) longer ∙ ap (λ l. l ++ rest) (map-append Ok done (d ∷ [])) ∙ append_assoc (map Ok done) (Ok d ∷ []) rest
    ∙ ap (λ j. map Ok done ++ j ∷ rest) (sym is) ∙ ap (λ l. map Ok done ++ l) (sym next) ∙ same

pub rest_so : {X : Type 0} (P : X → Type 0) (x : X) (before rest : List X) → before ≡ x ∷ rest → All P before → All P rest
rest_so P x before rest next all = All-tail P x rest (subst (All P) next all)
