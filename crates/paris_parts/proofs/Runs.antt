-- What comes of all that is done at the seats of a desk.
use Rattle.std.proofs.Common.{◌≡◌, ℕ, zero, suc, ◌+◌, ◌-◌, ◌<◌, ◌≤◌, true, false, List, [], ◌∷◌, ◌++◌, length, get_or, take, drop, map, Option, None, Some, refl, sym, ap, ◌∙◌, subst, inl, inr, arith, length-append}
use Rattle.std.specs.Prelude.{◌==◌, slice_get, MatchOption}
use Rattle.std.specs.List.{All, AllZip}
use mathlib.Core.List.{IsPrefix}
use Rattle.std.proofs.lemmas.Bool.{cases_lt}
use Rattle.std.proofs.lemmas.Bool.Decides.{nat_tests}
use Rattle.std.proofs.lemmas.List.{get_or_append_left, get_or-append_right, get_or-map, length-map}
use Rattle.std.proofs.Math.Seq.{take-append_seam}
use Rattle.std.proofs.lemmas.List.Elements.{All-cons, All-get_or, All-nil}
use Rattle.std.proofs.lemmas.Option.{slice_get-get_or}
use Rattle.paris_names.specs.declared.profiles.Profile.{Profile}
use Rattle.paris_records.specs.Agreement.{receipts_of_seat}
use Rattle.paris_records.specs.declared.limits.TheConstants.{MAX_HISTORY}
use Rattle.paris_records.specs.declared.records.Entry.{Entry}
use Rattle.paris_records.specs.declared.records.Receipt.{Receipt}
use Rattle.paris_records.specs.Receipts.{receipts_in}
use Rattle.paris_desk.specs.Closing.{by_number, past_of, receipts_of}
use Rattle.paris_desk.specs.Pasts.{Learned}
use Rattle.paris_desk.specs.Seats.{SeatState, sitting, fresh}
use Rattle.paris_desk.specs.Work.{Moves, Worked}
use Rattle.paris_desk.proofs.Lists.{by_number_at, by_number_past}
use Rattle.paris_desk.proofs.Moving.{Behind, all_both, all_so}
use Rattle.paris_desk.proofs.Prefixes.{prefix_length, prefix_none}
use Rattle.paris_desk.proofs.Turns.{worked_knows}
use Rattle.paris_parts.specs.Parts.{IsShort}
use Rattle.paris_parts.specs.Hands.{HandPlays}
use Rattle.paris_parts.specs.Jobs.{Doing, AreDone, JobHasRun, HasWorked, IsDone, IsNew, Played, RunsBehind, begun_at}
use Rattle.paris_session.specs.Hands.{empty_hand}
use Rattle.paris_parts.specs.Beginning.{hand_at}
use Rattle.paris_parts.specs.Seeing.{Glimpses, IsInTime, SeesWhenClosed}
use Rattle.paris_parts.specs.Texts.{at_seat}
use Rattle.paris_parts.specs.Run.{EachDone, FirstBeforeOthers}
use Rattle.paris_parts.proofs.Orders.{first_before}
use Rattle.paris_parts.proofs.Playing.{plays_so}
use Rattle.paris_parts.proofs.Sights.{UpTo, seen_so}

pub fresh_length : (n : ℕ) → length (fresh n) ≡ n
fresh_length zero = refl
fresh_length (suc n) =
    let long : length (fresh n ++ sitting n [] 0 [] ∷ []) ≡ length (fresh n) + 1 = length-append (fresh n) (sitting n [] 0 [] ∷ []) in
    let before = fresh_length n in
    omega (arith, long, before)

fresh_at : (count n : ℕ) (d : SeatState) → n < count → get_or (fresh count) n d ≡ sitting n [] 0 []
fresh_at zero n d less = absurd (omega (arith, less))
fresh_at (suc count) n d less = elim (cases_lt n count) [
  | inl low ↦ get_or_append_left (fresh count) (sitting count [] 0 [] ∷ []) d n (let long = fresh_length count in omega (arith, long, low)) ∙ fresh_at count n d low
  | inr high ↦
      let same : count ≡ n = omega (arith, less, high) in
      let none : n - count ≡ 0 = omega (arith, same) in
      get_or-append_right (fresh count) (sitting count [] 0 [] ∷ []) count n d (fresh_length count) high
      ∙ ap (λ (i : ℕ). get_or (sitting count [] 0 [] ∷ []) i d) none ∙ ap (λ (k : ℕ). sitting k [] 0 []) same
]

pub fresh_new : (n : ℕ) → All IsNew (fresh n)
fresh_new zero = All-nil IsNew
fresh_new (suc n) = all_both IsNew (fresh n) (sitting n [] 0 [] ∷ []) (fresh_new n) (All-cons IsNew (sitting n [] 0 []) [] (refl, refl) (All-nil IsNew))

-- how a seat began: it is the first, or was told of all that the first one knew
abbrev BeganAt : Profile → SeatState → ℕ → SeatState → SeatState → Type 0
BeganAt p first zero s s1 = s1 ≡ s
BeganAt p first (suc n) s s1 = Learned p s first s1

zip_at : {A B : Type 0} (R : A → B → Type 0) (xs : List A) (ys : List B) (n : ℕ) (x : A) (y : B) → AllZip R xs ys → n < length xs → R (get_or xs n x) (get_or ys n y)
zip_at R [] ys n x y h within = absurd (omega (arith, within))
zip_at R (a ∷ xs) [] n x y h within = absurd h
zip_at R (a ∷ xs) (b ∷ ys) zero x y h within = h.0
zip_at R (a ∷ xs) (b ∷ ys) (suc n) x y h within = zip_at R xs ys n x y h.1 (omega (arith, within))

zip_long : {A B : Type 0} (R : A → B → Type 0) (xs : List A) (ys : List B) → AllZip R xs ys → length ys ≡ length xs
zip_long R [] [] h = refl
zip_long R [] (b ∷ ys) h = absurd h
zip_long R (a ∷ xs) [] h = absurd h
zip_long R (a ∷ xs) (b ∷ ys) h = ap suc (zip_long R xs ys h.1)

done_long : (p : Profile) (parts : List (List (List ℕ))) (ss : List SeatState) (ds : List Doing) → AreDone p parts ss ds → length ds ≡ length ss
done_long p parts [] ds done = absurd done
done_long p parts (s ∷ ss) [] done = absurd done
done_long p parts (s ∷ ss) (d ∷ ds) done = ap suc (zip_long (RunsBehind p parts d.seat) ss ds done.1)

-- what is known of the seat at a place
ran_at : (p : Profile) (parts : List (List (List ℕ))) (ss : List SeatState) (ds : List Doing) (n : ℕ) (s : SeatState) (d e : Doing) → AreDone p parts ss ds → n < length ss
    → (s1 : SeatState) × BeganAt p (get_or ds 0 e).seat n (get_or ss n s) s1 × JobHasRun p parts s1 (get_or ds n d)
ran_at p parts [] ds n s d e done within = absurd done
ran_at p parts (a ∷ ss) [] n s d e done within = absurd done
ran_at p parts (a ∷ ss) (b ∷ ds) zero s d e done within = (a, refl, done.0)
ran_at p parts (a ∷ ss) (b ∷ ds) (suc n) s d e done within = zip_at (RunsBehind p parts b.seat) ss ds n s d done.1 (omega (arith, within))

began_same : (p : Profile) (first : SeatState) (n : ℕ) (s s1 : SeatState) → BeganAt p first n s s1 → (s1.number ≡ s.number) × (s1.receipts ≡ s.receipts)
began_same p first zero s s1 is = (ap (λ (x : SeatState). x.number) is, ap (λ (x : SeatState). x.receipts) is)
began_same p first (suc n) s s1 l = l.same

began_told : (p : Profile) (first : SeatState) (n : ℕ) (s s1 : SeatState) → BeganAt p first n s s1 → 1 ≤ n → IsPrefix first.past s1.past
began_told p first zero s s1 is other = absurd (omega (arith, other))
began_told p first (suc n) s s1 l other = l.others

-- how a seat that has run has moved
run_moves : (p : Profile) (parts : List (List (List ℕ))) (s : SeatState) (d : Doing) → JobHasRun p parts s d → (rs : List Receipt) × Moves s d.seat rs
run_moves p parts s d = by_part (slice_get parts s.number)
  where
    by_part : (o : Option (List (List ℕ))) → MatchOption o (HasWorked s d.seat) (λ part. Played p (Glimpses s.past d.seat) part s d × IsInTime d.seat) → (rs : List Receipt) × Moves s d.seat rs
    by_part None (ran, worked) = (worked.pairs ++ worked.last, worked.moved)
    by_part (Some part) (played, time) = (played.0, played.1)

-- in the closed history a seat has done what it did
done_so : (p : Profile) (parts : List (List (List ℕ))) (h : List Entry) (n : ℕ) (s1 : SeatState) (d : Doing) → s1.number ≡ n → s1.receipts ≡ [] → JobHasRun p parts s1 d
    → ((made : List Receipt) (seen : List Entry) → Glimpses s1.past d.seat made seen → SeesWhenClosed h n made seen) → IsDone p (SeesWhenClosed h n) parts (sitting n [] 0 []) d
done_so p parts h n s1 d number none run so = subst (λ (k : ℕ). MatchOption (slice_get parts k) (HasWorked (sitting n [] 0 []) d.seat) (λ part. Played p (SeesWhenClosed h n) part (sitting n [] 0 []) d)) number (by_part (slice_get parts s1.number) run)
  where
    moved : (rs : List Receipt) → Moves s1 d.seat rs → Moves (sitting n [] 0 []) d.seat rs
    moved rs m = record {
      gained = (m.gained.0 ∙ number, m.gained.1 ∙ ap (λ (l : List Receipt). l ++ rs) none);
      begins = prefix_none d.seat.past;
      front = omega arith;
      late = all_so (Behind s1.front) (Behind 0) rs (λ r late. omega (arith, late)) m.late;
    }

    worked : (ran : ℕ) → Worked MAX_HISTORY ran s1 d.seat → Worked MAX_HISTORY ran (sitting n [] 0 []) d.seat
    worked ran w = record {
      few = w.few;
      pairs = w.pairs;
      last = w.last;
      are_pairs = w.are_pairs;
      ends = w.ends;
      moved = moved (w.pairs ++ w.last) w.moved;
      knows = worked_knows MAX_HISTORY ran s1 (sitting n [] 0 []) d.seat (omega arith) w;
    }

    by_part : (o : Option (List (List ℕ))) → MatchOption o (HasWorked s1 d.seat) (λ part. Played p (Glimpses s1.past d.seat) part s1 d × IsInTime d.seat)
        → MatchOption o (HasWorked (sitting n [] 0 []) d.seat) (λ part. Played p (SeesWhenClosed h n) part (sitting n [] 0 []) d)
    by_part None (ran, w) = (ran, worked ran w)
    by_part (Some part) ((rs, m, plays, few), time) = (
      rs,
      moved rs m,
      subst (λ (k : ℕ). HandPlays p (SeesWhenClosed h n) [] [] (empty_hand (k == 0)) part rs d.hand d.text) number
          (subst (λ (l : List Receipt). HandPlays p (SeesWhenClosed h n) l [] (hand_at s1) part rs d.hand d.text) none
          (plays_so p (Glimpses s1.past d.seat) (SeesWhenClosed h n) s1.receipts [] (hand_at s1) part rs d.hand d.text so plays)),
      few,
    )

-- seats that stand by their numbers: the one of a number stands at its place
seat_at : (k : ℕ) (ss : List SeatState) (n : ℕ) (s : SeatState) → ((i : ℕ) (t : SeatState) → i < length ss → (get_or ss i t).number ≡ k + i) → n < length ss
    → (receipts_of (k + n) ss ≡ (get_or ss n s).receipts) × (past_of (k + n) ss ≡ (get_or ss n s).past)
seat_at k [] n s numbers within = absurd (omega (arith, within))
seat_at k (a ∷ ss) zero s numbers within =
    let own : a.number ≡ k + 0 = numbers 0 s (omega arith) in
    let hit : (a.number == (k + 0)) ≡ true = grind (arith, nat_tests, own) in
    (rw hit refl, rw hit refl)
seat_at k (a ∷ ss) (suc n) s numbers within =
    let own : a.number ≡ k + 0 = numbers 0 s (omega arith) in
    let miss : (a.number == (k + suc n)) ≡ false = grind (arith, nat_tests, own) in
    let on : suc k + n ≡ k + suc n = omega arith in
    let rest = seat_at (suc k) ss n s (λ i t inside. (let e = numbers (suc i) t (omega (arith, inside)) in omega (arith, e))) (omega (arith, within)) in
    (rw miss (ap (λ (j : ℕ). receipts_of j ss) (sym on) ∙ rest.0), rw miss (ap (λ (j : ℕ). past_of j ss) (sym on) ∙ rest.1))

-- seats that have run have their numbers still
number_at : (p : Profile) (parts : List (List (List ℕ))) (count : ℕ) (ds : List Doing) → AreDone p parts (fresh count) ds → (n : ℕ) (d : Doing) → n < count → (get_or ds n d).seat.number ≡ n
number_at p parts count ds done n d within =
    let inside : n < length (fresh count) = (let long = fresh_length count in omega (arith, long, within)) in
    let (s1, began, run) = ran_at p parts (fresh count) ds n (sitting n [] 0 []) d d done inside in
    (run_moves p parts s1 (get_or ds n d) run).1.gained.0 ∙ (began_same p (get_or ds 0 d).seat n (get_or (fresh count) n (sitting n [] 0 [])) s1 began).0
    ∙ ap (λ (s : SeatState). s.number) (fresh_at count n (sitting n [] 0 []) within)

-- a first seat that has played is in time
first_in_time : (p : Profile) (parts : List (List (List ℕ))) (s : SeatState) (d : Doing) → s.number ≡ 0 → 1 ≤ length parts → JobHasRun p parts s d → IsInTime d.seat
first_in_time p parts s d number some run =
    let at : slice_get parts s.number ≡ Some (get_or parts 0 []) = ap (slice_get parts) number ∙ slice_get-get_or parts 0 [] some in
    (subst (λ o. MatchOption o (HasWorked s d.seat) (λ part. Played p (Glimpses s.past d.seat) part s d × IsInTime d.seat)) at run).1

-- how the seat of a number began, and that it has run
begun : (p : Profile) (parts : List (List (List ℕ))) (count : ℕ) (ds : List Doing) (n : ℕ) → AreDone p parts (fresh count) ds → n < count
    → (s1 : SeatState) × BeganAt p (at_seat ds 0).seat n (sitting n [] 0 []) s1 × JobHasRun p parts s1 (at_seat ds n)
begun p parts count ds n done within =
    let inside : n < length (fresh count) = (let long = fresh_length count in omega (arith, long, within)) in
    let (s1, began, run) = ran_at p parts (fresh count) ds n (sitting n [] 0 []) (begun_at (sitting n [] 0 [])) (begun_at (sitting 0 [] 0 [])) done inside in
    (s1, subst (λ (s : SeatState). BeganAt p (at_seat ds 0).seat n s s1) (fresh_at count n (sitting n [] 0 []) within) began, run)

-- the first seat's calls are in its past
first_upto : (p : Profile) (parts : List (List (List ℕ))) (count : ℕ) (ds : List Doing) → AreDone p parts (fresh count) ds → 1 ≤ length parts → 1 ≤ count
    → All (UpTo (length (at_seat ds 0).seat.past)) (at_seat ds 0).seat.receipts
first_upto p parts count ds done some any =
    let (s1, began, run) = begun p parts count ds 0 done any in
    (first_in_time p parts s1 (at_seat ds 0) (ap (λ (s : SeatState). s.number) began) some run).1

-- those of all others are behind it
others_behind : (p : Profile) (parts : List (List (List ℕ))) (count : ℕ) (ds : List Doing) (n : ℕ) → AreDone p parts (fresh count) ds → 1 ≤ n → n < count
    → All (Behind (length (at_seat ds 0).seat.past)) (at_seat ds n).seat.receipts
others_behind p parts count ds zero done other within = absurd (omega (arith, other))
others_behind p parts count ds (suc n) done other within =
    let known : ℕ = length (at_seat ds 0).seat.past in
    let (s1, learned, run) = begun p parts count ds (suc n) done within in
    let (rs, moved) = run_moves p parts s1 (at_seat ds (suc n)) run in
    let told : known ≤ s1.front = (let long = prefix_length (at_seat ds 0).seat.past s1.past learned.others in let front = learned.front in omega (arith, long, front)) in
    let are : (at_seat ds (suc n)).seat.receipts ≡ rs = moved.gained.1 ∙ ap (λ (l : List Receipt). l ++ rs) learned.same.1 in
    subst (All (Behind known)) (sym are) (all_so (Behind s1.front) (Behind known) rs (λ r late. omega (arith, late, told)) moved.late)

-- each of so many seats has just its receipts of a history, which begins with its past
abbrev StandIn : List Entry → ℕ → List Doing → Type 0
StandIn h count ds = (n : ℕ) → n < count → ((at_seat ds n).seat.receipts ≡ receipts_in n 0 h) × IsPrefix (at_seat ds n).seat.past h

-- so it is in the history of a closed desk
stand_in : (p : Profile) (parts : List (List (List ℕ))) (count : ℕ) (ds : List Doing) (h : List Entry) → AreDone p parts (fresh count) ds
    → ((n : ℕ) → n < count → IsPrefix (past_of n (map (λ (d : Doing). d.seat) ds)) h) → ((n : ℕ) → receipts_of_seat (by_number count (map (λ (d : Doing). d.seat) ds)) n ≡ receipts_in n 0 h) → StandIn h count ds
stand_in p parts count ds h done begins each n within =
    let seat_of : Doing → SeatState = λ d. d.seat in
    let sat : List SeatState = map seat_of ds in
    let long : length ds ≡ count = done_long p parts (fresh count) ds done ∙ fresh_length count in
    let sat_long : length sat ≡ length ds = length-map ds seat_of in
    let numbers : (i : ℕ) (t : SeatState) → i < length sat → (get_or sat i t).number ≡ 0 + i = λ i t inside.
    (ap (λ (s : SeatState). s.number) (get_or-map seat_of ds i (begun_at (sitting i [] 0 [])) t (omega (arith, inside, sat_long)))
    ∙ number_at p parts count ds done i (begun_at (sitting i [] 0 [])) (omega (arith, inside, sat_long, long)) ∙ omega arith) in
    let there : get_or sat n (sitting n [] 0 []) ≡ (at_seat ds n).seat = get_or-map seat_of ds n (begun_at (sitting n [] 0 [])) (sitting n [] 0 []) (omega (arith, within, long)) in
    let zero_more : 0 + n ≡ n = omega arith in
    let both = seat_at 0 sat n (sitting n [] 0 []) numbers (omega (arith, within, sat_long, long)) in
    let receipts : receipts_of n sat ≡ (at_seat ds n).seat.receipts = ap (λ (k : ℕ). receipts_of k sat) (sym zero_more) ∙ both.0 ∙ ap (λ (s : SeatState). s.receipts) there in
    let past : past_of n sat ≡ (at_seat ds n).seat.past = ap (λ (k : ℕ). past_of k sat) (sym zero_more) ∙ both.1 ∙ ap (λ (s : SeatState). s.past) there in
    (sym receipts ∙ sym (by_number_at count sat n within) ∙ each n, subst (λ (l : List Entry). IsPrefix l h) past (begins n within))

-- where all seats have run whose desk is closed, it is known in the history what each has done
pub each_done : (p : Profile) (parts : List (List (List ℕ))) (count : ℕ) (ds : List Doing) (h : List Entry) → AreDone p parts (fresh count) ds → 1 ≤ length parts → 1 ≤ count
    → ((n : ℕ) → n < count → IsPrefix (past_of n (map (λ (d : Doing). d.seat) ds)) h) → ((n : ℕ) → receipts_of_seat (by_number count (map (λ (d : Doing). d.seat) ds)) n ≡ receipts_in n 0 h) → EachDone p h parts count ds
each_done p parts count ds h done some any begins each =
    let first = at_seat ds 0 in
    let stand = stand_in p parts count ds h done begins each in
    let upto = first_upto p parts count ds done some any in (
      done_long p parts (fresh count) ds done ∙ fresh_length count,
      λ n within. (
          let (s1, began, run) = begun p parts count ds n done within in
          let same = began_same p first.seat n (sitting n [] 0 []) s1 began in
          done_so p parts h n s1 (at_seat ds n) same.0 same.1 run
          (seen_so h n (at_seat ds n).seat s1.past first.seat.past first.seat.receipts (stand n within).1 (stand n within).0
          (began_told p first.seat n (sitting n [] 0 []) s1 began) upto (stand 0 any).0)),
    )

-- and in it the first seat's calls come before those of the others
pub first_before_others : (p : Profile) (parts : List (List (List ℕ))) (count : ℕ) (ds : List Doing) (h : List Entry) → AreDone p parts (fresh count) ds → 1 ≤ length parts → 1 ≤ count
    → ((n : ℕ) → n < count → IsPrefix (past_of n (map (λ (d : Doing). d.seat) ds)) h) → ((n : ℕ) → receipts_of_seat (by_number count (map (λ (d : Doing). d.seat) ds)) n ≡ receipts_in n 0 h) → FirstBeforeOthers h
first_before_others p parts count ds h done some any begins each =
    first_before known 0 h others (subst (All (UpTo known)) (stand 0 any).0 (first_upto p parts count ds done some any))
  where
    known : ℕ
    known = length (at_seat ds 0).seat.past

    stand : StandIn h count ds
    stand = stand_in p parts count ds h done begins each

    sat : List SeatState
    sat = map (λ (d : Doing). d.seat) ds

    others : (n : ℕ) → 1 ≤ n → All (Behind known) (receipts_in n 0 h)
    others n other = elim (cases_lt n count) [
      | inl within ↦ subst (All (Behind known)) (stand n within).0 (others_behind p parts count ds n done other within)
      | inr past ↦ subst (All (Behind known)) (sym (by_number_past count sat n past) ∙ each n) (All-nil (Behind known))
    ]

-- a part that was played has few commands
played_few : (p : Profile) (parts : List (List (List ℕ))) (n : ℕ) (s : SeatState) (d : Doing) → s.number ≡ n → All IsShort parts → n < length parts → JobHasRun p parts s d → d.hand.commands < 1125899906842624
played_few p parts n s d number short within run =
    let at : slice_get parts s.number ≡ Some (get_or parts n []) = ap (slice_get parts) number ∙ slice_get-get_or parts n [] within in
    let few : IsShort (get_or parts n []) = All-get_or IsShort parts n [] within short in
    let both = subst (λ o. MatchOption o (HasWorked s d.seat) (λ part. Played p (Glimpses s.past d.seat) part s d × IsInTime d.seat)) at run in
    let less = both.0.3 in
    omega (arith, less, few)

pub all_few : (p : Profile) (parts : List (List (List ℕ))) (count : ℕ) (ds : List Doing) → All IsShort parts → length parts ≤ count → AreDone p parts (fresh count) ds
    → (n : ℕ) → n < length parts → (at_seat ds n).hand.commands < 1125899906842624
all_few p parts count ds short enough done n within =
    let less : n < count = omega (arith, within, enough) in
    let inside : n < length (fresh count) = (let long = fresh_length count in omega (arith, long, less)) in
    let (s1, began, run) = ran_at p parts (fresh count) ds n (sitting n [] 0 []) (begun_at (sitting n [] 0 [])) (begun_at (sitting 0 [] 0 [])) done inside in
    let number = (began_same p (get_or ds 0 (begun_at (sitting 0 [] 0 []))).seat n (get_or (fresh count) n (sitting n [] 0 [])) s1 began).0 ∙ ap (λ (s : SeatState). s.number) (fresh_at count n (sitting n [] 0 []) less) in
    played_few p parts n s1 (at_seat ds n) number short within run

pub all_long : (p : Profile) (parts : List (List (List ℕ))) (count : ℕ) (ds : List Doing) → AreDone p parts (fresh count) ds → length ds ≡ count
all_long p parts count ds done = done_long p parts (fresh count) ds done ∙ fresh_length count

-- a list that was lent to be changed is as it was left
pub written_back : {X : Type 0} (n : ℕ) (xs ys : List X) → length xs ≡ n → take n (xs ++ drop (length xs) ys) ≡ xs
written_back n xs ys e = ap (λ k. take k (xs ++ drop (length xs) ys)) (sym e) ∙ take-append_seam xs (drop (length xs) ys)
