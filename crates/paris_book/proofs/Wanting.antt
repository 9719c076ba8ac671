-- Going back from a wanted key: which keys are wanted before rows, and that the value is settled once the rows that it stands on had
-- their turn.
use Rattle.std.proofs.Common.{◌≡◌, ℕ, ◌+◌, ◌<◌, ◌≤◌, List, [], ◌∷◌, ◌++◌, Bool, true, false, cond, Option, Some, None, Ok, refl, sym, ap, ◌∙◌, subst, arith, map, length, take, drop, zero, suc, set, slice_get, append-nil, add-zero, eqb}
use Rattle.std.proofs.Math.Path.{ap₂, fun_ext}
use Rattle.std.proofs.lemmas.List.{length-take-le, take-set}
use Rattle.std.specs.Prelude.{◌&&◌, ◌||◌, not}
use Rattle.std.specs.List.{list_all, list_any, find, enumerate_from}
use Rattle.std.specs.Option.{ok_or, option_map, unwrap_or}
use Rattle.paris_names.specs.declared.faults.Fault.{Fault}
use Rattle.paris_names.specs.declared.keys.Key.{Key}
use Rattle.paris_names.specs.Keys.{key_eq, has_key}
use Rattle.paris_names.proofs.KeyLists.{key_eq-true, key_eq-same}
use Rattle.paris_names.specs.declared.names.KeyName.{KeyName}
use Rattle.paris_names.specs.declared.ids.Spot.{Spot}
use Rattle.paris_names.specs.declared.ids.Spot.TheVariants.{Start as AtStart, After, End as AtEnd}
use Rattle.paris_board.specs.Board.{Board, key_named, width_of}
use Rattle.paris_field.specs.Fields.{FieldNumbers}
use Rattle.paris_model.specs.Instructions.{reads, writes}
use Rattle.paris_model.specs.Recipe.{origin}
use Rattle.paris_edits.specs.Rows.{is_settled}
use Rattle.paris_events.specs.State.{Row, State, row_ids, row_plan, place_of_spot, start_world}
use Rattle.paris_events.specs.Show.{now, origin_at, shown_of, show_from, show_key, show_reply}
use Rattle.paris_events.specs.declared.events.Shown.TheVariants.{Settled, Pending}
use Rattle.paris_events.specs.Events.{has_value}
use Rattle.paris_events.specs.Orders.{is_firm}
use Rattle.paris_events.specs.CutOff.{is_cut, cut_found, cut_off}
use Rattle.paris_events.specs.Settling.{settled_row, run_row}
use Rattle.paris_events.proofs.Passes.{cut, firm_after, from_start}
use Rattle.paris_events.proofs.Passing.{firm_behind, firm_start, cut_off_is}
use Rattle.paris_events.proofs.Passing as passing
use Rattle.paris_events.proofs.Ends.{ids_cut}
use Rattle.paris_book.specs.Steps.{is_free, is_run, run_on, turned_on, turned_at}
use Rattle.paris_book.specs.Entries.{Entry, machine_row}
use Rattle.paris_book.specs.Statuses.{next_unsettled}
use Rattle.paris_book.specs.Wanted.{is_wanted, wants, wanted_before, has_turn, wanted_from, stands_on, turned_all}
use Rattle.paris_book.proofs.Advancing.{put_in, more_cut}
use Rattle.paris_book.proofs.Firmer.{more_take, origin_more, firm_more}
use Rattle.paris_book.proofs.InOrder.{get_set}
use Rattle.paris_book.proofs.Searches.{passed_over, none_beyond}

-- ---- keys

pub or_left : (a b : Bool) → a ≡ true → (a || b) ≡ true
or_left true b e = refl
or_left false b e = absurd (let x : false ≡ true = e in cc)

pub or_right : (a b : Bool) → b ≡ true → (a || b) ≡ true
or_right true b e = refl
or_right false b e = e

-- a test that all keys of a list pass
pub pass_all : (test : Key → Bool) (ks : List Key) → ((k : Key) → has_key ks k ≡ true → test k ≡ true) → list_all test ks ≡ true
pass_all test [] h = refl
pass_all test (k ∷ ks) h =
    rw (h k (or_left (key_eq k k) (has_key ks k) (key_eq-same k))) (pass_all test ks (λ j t. h j (or_right (key_eq j k) (has_key ks j) t)))

-- a key that passes isn't among keys of which none does
none_rest : (a b : Bool) → (a || b) ≡ false → b ≡ false
none_rest true b n = absurd (let x : true ≡ false = n in cc)
none_rest false b n = n

pub apart : (test : Key → Bool) (ks : List Key) (k : Key) → list_any test ks ≡ false → test k ≡ true → has_key ks k ≡ false
apart test [] k none t = refl
apart test (j ∷ ks) k none t = by_same (apart test ks k (none_rest (test j) (list_any test ks) none) t) (key_eq k j) refl
  where
    by_same : has_key ks k ≡ false → (b : Bool) → key_eq k j ≡ b → (b || has_key ks k) ≡ false
    by_same rest true e =
        let here : test j ≡ true = subst (λ x. test x ≡ true) (key_eq-true k j e) t in
        let wrong : true ≡ false = sym (or_left (test j) (list_any test ks) here) ∙ none in
        absurd (cc)
    by_same rest false e = rest

-- ---- rows that stand where they stood

abbrev pub Stand : List Row → ℕ → List Row → Type 0
Stand rs n all = (i : ℕ) (r : Row) → slice_get rs i ≡ Some r → slice_get all (n + i) ≡ Some r

set_behind : (all : List Row) (n p : ℕ) (x : Row) → n < p → slice_get (set all n x) p ≡ slice_get all p
set_behind [] n p x less = refl
set_behind (y ∷ all) zero zero x less = absurd (omega (arith, less))
set_behind (y ∷ all) zero (suc p) x less = refl
set_behind (y ∷ all) (suc n) zero x less = absurd (omega (arith, less))
set_behind (y ∷ all) (suc n) (suc p) x less = set_behind all n p x (omega (arith, less))

stand_here : (r : Row) (rs : List Row) (n : ℕ) (all : List Row) → Stand (r ∷ rs) n all → slice_get all n ≡ Some r
stand_here r rs n all stand = ap (slice_get all) (sym (add-zero n)) ∙ stand 0 r refl

stand_next : (r : Row) (rs : List Row) (n : ℕ) (all : List Row) → Stand (r ∷ rs) n all → Stand rs (suc n) all
stand_next r rs n all stand i q at = let place : suc n + i ≡ n + suc i = omega arith in ap (slice_get all) place ∙ stand (suc i) q at

stand_set : (rs : List Row) (n : ℕ) (all : List Row) (x : Row) → Stand rs (suc n) all → Stand rs (suc n) (set all n x)
stand_set rs n all x stand i q at = set_behind all n (suc n + i) x (omega arith) ∙ stand i q at

-- ---- one turn

taken_on : (all : List Row) (n : ℕ) (r : Row) → slice_get all n ≡ Some r → take (suc n) all ≡ take n all ++ r ∷ []
taken_on [] n r at = absurd (cc)
taken_on (y ∷ all) zero r at = let same : y ≡ r = cc in ap (λ z. z ∷ []) same
taken_on (y ∷ all) (suc n) r at = ap (λ rest. y ∷ rest) (taken_on all n r at)

-- which keys are settled behind a row
pub firm_next : (s : State) (n : ℕ) (r : Row) (k : Key) → slice_get s.rows n ≡ Some r → is_firm (origin_at s (suc n) k) ≡ cond (has_key (writes r.plan) k) (is_settled r.status) (is_firm (origin_at s n k))
unfolding firm_after
firm_next s n r k at =
    let h : Key → Bool = λ j. is_firm (origin row_plan j (take n s.rows)) in
    let front : h ≡ firm_behind from_start (take n s.rows) = firm_start (take n s.rows) in
    ap (λ rs. is_firm (origin row_plan k rs)) (taken_on s.rows n r at)
    ∙ ap (λ (g : Key → Bool). g k) (firm_start (take n s.rows ++ r ∷ []) ∙ passing.firm_more from_start (take n s.rows) r)
    ∙ ap (λ (g : Key → Bool). cond (has_key (writes r.plan) k) (is_settled r.status) (g k)) (sym front)

-- an unsettled row whose keys are settled is settled by its turn
turn_puts : (s : State) (n : ℕ) (r : Row) → slice_get s.rows n ≡ Some r → is_settled r.status ≡ false → is_free s n r ≡ true
    → (x : Row) × (turned_at s n ≡ put_in s n x) × (is_settled x.status ≡ true) × (x.plan ≡ r.plan)
turn_puts s n r at unsettled free = by_cut (is_cut s n r) refl
  where
    by_cut : (c : Bool) → is_cut s n r ≡ c → (x : Row) × (turned_at s n ≡ put_in s n x) × (is_settled x.status ≡ true) × (x.plan ≡ r.plan)
    by_cut true c =
        let run : is_run s n r ≡ false = ap₂ (λ a b. not (a || b) && is_free s n r) unsettled c in
        (settled_row r, ap (turned_on s n) at ∙ ap₂ (λ a b. cond a (run_on s n (Some r)) (cond b (put_in s n (settled_row r)) s)) run c, refl, refl)
    by_cut false c =
        let run : is_run s n r ≡ true = ap₂ (λ a b. not (a || b) && is_free s n r) unsettled c ∙ free in
        (run_row (now s n) r, ap (turned_on s n) at ∙ ap (λ a. cond a (run_on s n (Some r)) (cut_found s n (Some r))) run, refl, refl)

-- the turn of a place that stands last in a list is the first
pub turned_last : (places : List ℕ) (n : ℕ) (s : State) → turned_all (places ++ n ∷ []) s ≡ turned_all places (turned_at s n)
turned_last [] n s = refl
turned_last (p ∷ places) n s = ap (λ z. turned_at z p) (turned_last places n s)

-- ---- all turns

module _ (want : Key → Bool) where
  -- the keys that are wanted before rows are settled there; then those that are wanted behind them are settled once the rows that these
  -- stand on had their turn
  pub settles : (rs : List Row) (n m : ℕ) (s : State) → m ≡ n + length rs → Stand rs n s.rows
      → ((k : Key) → wanted_before want rs k ≡ true → is_firm (origin_at s n k) ≡ true)
      → (k : Key) → want k ≡ true → is_firm (origin_at (turned_all (wanted_from want n rs) s) m k) ≡ true
  settles [] n m s e stand firm k w = let here : m ≡ n = e ∙ add-zero n in ap (λ p. is_firm (origin_at s p k)) here ∙ firm k w
  settles (r ∷ rs) n m s e stand firm k w =
      let far : m ≡ suc n + length rs = omega (arith, e) in
      by_wanted (λ z behind_z next_z. settles rs (suc n) m z far behind_z next_z k w) (is_wanted want_here r) refl (is_settled r.status) refl
    where
      want_here : Key → Bool
      want_here = wanted_before want rs

      later : List ℕ
      later = wanted_from want (suc n) rs

      here : slice_get s.rows n ≡ Some r
      here = stand_here r rs n s.rows stand

      behind : Stand rs (suc n) s.rows
      behind = stand_next r rs n s.rows stand

      -- a row that has no turn
      rest : has_turn want_here r ≡ false → is_firm (origin_at (turned_all later s) m k) ≡ true → is_firm (origin_at (turned_all (wanted_from want n (r ∷ rs)) s) m k) ≡ true
      rest none settled =
          ap (λ c. is_firm (origin_at (turned_all (later ++ cond c (n ∷ []) []) s) m k)) none
          ∙ ap (λ places. is_firm (origin_at (turned_all places s) m k)) (append-nil later)
          ∙ settled

      by_wanted : ((z : State) → Stand rs (suc n) z.rows → ((j : Key) → want_here j ≡ true → is_firm (origin_at z (suc n) j) ≡ true) → is_firm (origin_at (turned_all later z) m k) ≡ true)
          → (a : Bool) → is_wanted want_here r ≡ a → (b : Bool) → is_settled r.status ≡ b → is_firm (origin_at (turned_all (wanted_from want n (r ∷ rs)) s) m k) ≡ true
      by_wanted onward false unwanted b status = rest (ap (λ a. a && not (is_settled r.status)) unwanted) (onward s behind next)
        where
          next : (j : Key) → want_here j ≡ true → is_firm (origin_at s (suc n) j) ≡ true
          next j t =
              let other : has_key (writes r.plan) j ≡ false = apart want_here (writes r.plan) j unwanted t in
              let before : wants want_here r j ≡ true = ap (λ a. cond a (cond (not (is_settled r.status) && has_key (reads r.plan) j) true (cond (has_key (writes r.plan) j) false (want_here j))) (want_here j)) unwanted ∙ t in
              firm_next s n r j here ∙ ap (λ a. cond a (is_settled r.status) (is_firm (origin_at s n j))) other ∙ firm j before
      by_wanted onward true wanted true settled = rest (ap₂ (λ a b. a && not b) wanted settled) (onward s behind next)
        where
          by_write : (j : Key) → want_here j ≡ true → (b : Bool) → has_key (writes r.plan) j ≡ b → cond b (is_settled r.status) (is_firm (origin_at s n j)) ≡ true
          by_write j t true x = settled
          by_write j t false x =
              let before : wants want_here r j ≡ true =
              ap₂ (λ a b. cond a (cond (not b && has_key (reads r.plan) j) true (cond (has_key (writes r.plan) j) false (want_here j))) (want_here j)) wanted settled
              ∙ ap (λ a. cond a false (want_here j)) x ∙ t in
              firm j before

          next : (j : Key) → want_here j ≡ true → is_firm (origin_at s (suc n) j) ≡ true
          next j t = firm_next s n r j here ∙ by_write j t (has_key (writes r.plan) j) refl
      by_wanted onward true wanted false unsettled =
          ap (λ c. is_firm (origin_at (turned_all (later ++ cond c (n ∷ []) []) s) m k)) turn
          ∙ ap (λ z. is_firm (origin_at z m k)) (turned_last later n s ∙ ap (turned_all later) put.1)
          ∙ onward (put_in s n put.0) (stand_set rs n s.rows put.0 behind) next
        where
          turn : has_turn want_here r ≡ true
          turn = ap₂ (λ a b. a && not b) wanted unsettled

          -- what it reads is wanted
          read : (j : Key) → has_key (reads r.plan) j ≡ true → is_firm (origin_at s n j) ≡ true
          read j t =
              let before : wants want_here r j ≡ true =
              ap₂ (λ a b. cond a (cond (not b && has_key (reads r.plan) j) true (cond (has_key (writes r.plan) j) false (want_here j))) (want_here j)) wanted unsettled
              ∙ ap (λ a. cond a true (cond (has_key (writes r.plan) j) false (want_here j))) t in
              firm j before

          put : (x : Row) × (turned_at s n ≡ put_in s n x) × (is_settled x.status ≡ true) × (x.plan ≡ r.plan)
          put = turn_puts s n r here unsettled (pass_all (λ j. is_firm (origin_at s n j)) (reads r.plan) read)

          stands : slice_get (put_in s n put.0).rows n ≡ Some put.0
          stands = get_set s.rows n r put.0 here

          as_before : (j : Key) → is_firm (origin_at (put_in s n put.0) n j) ≡ is_firm (origin_at s n j)
          as_before j = ap (λ rs. is_firm (origin row_plan j rs)) (take-set s.rows n put.0)

          by_write : (j : Key) → want_here j ≡ true → (b : Bool) → has_key (writes put.0.plan) j ≡ b → cond b (is_settled put.0.status) (is_firm (origin_at (put_in s n put.0) n j)) ≡ true
          by_write j t true x = put.2
          by_write j t false x =
              let unwritten : has_key (writes r.plan) j ≡ false = ap (λ p. has_key (writes p) j) (sym put.3) ∙ x in
              as_before j ∙ by_read j t unwritten (has_key (reads r.plan) j) refl
            where
              by_read : (i : Key) → want_here i ≡ true → has_key (writes r.plan) i ≡ false → (b : Bool) → has_key (reads r.plan) i ≡ b → is_firm (origin_at s n i) ≡ true
              by_read i t u true y = read i y
              by_read i t u false y =
                  let before : wants want_here r i ≡ true =
                  ap₂ (λ a b. cond a (cond (not b && has_key (reads r.plan) i) true (cond (has_key (writes r.plan) i) false (want_here i))) (want_here i)) wanted unsettled
                  ∙ ap₂ (λ a b. cond a true (cond b false (want_here i))) y u ∙ t in
                  firm i before

          next : (j : Key) → want_here j ≡ true → is_firm (origin_at (put_in s n put.0) (suc n) j) ≡ true
          next j t = firm_next (put_in s n put.0) n put.0 j stands ∙ by_write j t (has_key (writes put.0.plan) j) refl

-- ---- rows that are settled have no turn

none_of : (b : Bool) → (b && false) ≡ false
none_of true = refl
none_of false = refl

settled_front : (want : Key → Bool) (n m : ℕ) (rs : List Row) → ((i : ℕ) (r : Row) → i < m → slice_get rs i ≡ Some r → is_settled r.status ≡ true) → wanted_from want n rs ≡ wanted_from want (n + m) (drop m rs)
settled_front want n zero rs h = ap (λ p. wanted_from want p rs) (sym (add-zero n))
settled_front want n (suc m) [] h = refl
settled_front want n (suc m) (r ∷ rs) h =
    let settled : is_settled r.status ≡ true = h 0 r (omega arith) refl in
    let none : has_turn (wanted_before want rs) r ≡ false = ap (λ b. is_wanted (wanted_before want rs) r && not b) settled ∙ none_of (is_wanted (wanted_before want rs) r) in
    let place : suc n + m ≡ n + suc m = omega arith in
    ap (λ c. wanted_from want (suc n) rs ++ cond c (n ∷ []) []) none
    ∙ append-nil (wanted_from want (suc n) rs)
    ∙ settled_front want (suc n) m rs (λ i q less at. h (suc i) q (omega (arith, less)) at)
    ∙ ap (λ p. wanted_from want p (drop m rs)) place

pub get_taken : (rs : List Row) (n i : ℕ) (r : Row) → slice_get (take n rs) i ≡ Some r → slice_get rs i ≡ Some r
get_taken [] zero i r at = at
get_taken [] (suc n) i r at = at
get_taken (y ∷ rs) zero i r at = absurd (cc)
get_taken (y ∷ rs) (suc n) zero r at = at
get_taken (y ∷ rs) (suc n) (suc i) r at = get_taken rs n i r at

-- rows before the place where a search for the first unsettled row ends are settled
pub settled_under : (rs : List Row) (place start at : ℕ) → start ≡ unwrap_or (next_unsettled rs 0) place → at ≤ start → (i : ℕ) (r : Row) → i < at → slice_get rs i ≡ Some r → is_settled r.status ≡ true
settled_under rs place start at is less = by_found (next_unsettled rs 0) refl is
  where
    by_found : (o : Option ℕ) → next_unsettled rs 0 ≡ o → start ≡ unwrap_or o place → (i : ℕ) (r : Row) → i < at → slice_get rs i ≡ Some r → is_settled r.status ≡ true
    by_found None found e i r below here = none_beyond rs 0 found i r (omega arith) here
    by_found (Some p) found e i r below here = passed_over rs 0 p found i r (omega arith) (omega (arith, e, below, less)) here

pub settled_start : (want : Key → Bool) (rs : List Row) (place start at : ℕ) → start ≡ unwrap_or (next_unsettled rs 0) place → at ≤ start → wanted_from want at (drop at (take place rs)) ≡ wanted_from want 0 (take place rs)
settled_start want rs place start at is less = let from : at ≡ 0 + at = omega arith in ap (λ p. wanted_from want p (drop at (take place rs))) from ∙ sym (settled_front want 0 at (take place rs) (λ i r below here. settled_under rs place start at is less i r below (get_taken rs place i r here)))

-- ---- one step back

drop_taken : (es : List Entry) (place k : ℕ) (e : Entry) → slice_get es k ≡ Some e → k < place → drop k (take place (map machine_row es)) ≡ machine_row e ∷ drop (suc k) (take place (map machine_row es))
drop_taken [] place k e at less = absurd (cc)
drop_taken (y ∷ es) zero k e at less = absurd (omega (arith, less))
drop_taken (y ∷ es) (suc place) zero e at less = let same : y ≡ e = cc in ap (λ z. machine_row z ∷ take place (map machine_row es)) same
drop_taken (y ∷ es) (suc place) (suc k) e at less = drop_taken es place k e at (omega (arith, less))

drop_end : {X : Type 0} (n : ℕ) (xs : List X) → drop n (take n xs) ≡ []
drop_end zero xs = refl
drop_end (suc n) [] = refl
drop_end (suc n) (x ∷ xs) = drop_end n xs

pub back_begins : (want : Key → Bool) (place : ℕ) (rs : List Row) → (wanted_before want (drop place (take place rs)) ≡ want) × ([] ≡ wanted_from want place (drop place (take place rs)))
back_begins want place rs = (ap (wanted_before want) (drop_end place rs), ap (wanted_from want place) (sym (drop_end place rs)))

module _ (want : Key → Bool) (es : List Entry) (place n k : ℕ) (e : Entry) (here : slice_get es k ≡ Some e) (below : n ≤ place) (next : n ≡ suc k) (h : Key → Bool)
    (marks : (j : Key) → h j ≡ wanted_before want (drop n (take place (map machine_row es))) j) where
  abbrev taken : List Row
  taken = take place (map machine_row es)

  -- the rows from the place on
  step : drop k taken ≡ machine_row e ∷ drop n taken
  step = drop_taken es place k e here (omega (arith, below, next)) ∙ ap (λ p. machine_row e ∷ drop p taken) (sym next)

  marked_behind : h ≡ wanted_before want (drop n taken)
  marked_behind = fun_ext marks

  pub back_marks : (g : Key → Bool) → ((j : Key) → g j ≡ wants h (machine_row e) j) → (j : Key) → g j ≡ wanted_before want (drop k taken) j
  back_marks g carried j = carried j ∙ ap (λ f. wants f (machine_row e) j) marked_behind ∙ ap (λ rs. wanted_before want rs j) (sym step)

  pub back_places : (places : List ℕ) → places ≡ wanted_from want n (drop n taken) → (b : Bool) → b ≡ has_turn h (machine_row e) → places ++ cond b (k ∷ []) [] ≡ wanted_from want k (drop k taken)
  back_places places so_far b turn =
      ap₂ (λ ps c. ps ++ cond c (k ∷ []) []) so_far (turn ∙ ap (λ f. has_turn f (machine_row e)) marked_behind)
      ∙ ap (λ p. wanted_from want p (drop n taken) ++ cond (has_turn (wanted_before want (drop n taken)) (machine_row e)) (k ∷ []) []) next
      ∙ ap (wanted_from want k) (sym step)

-- ---- what is shown then

pub board_turn : (s : State) (p : ℕ) (o : Option Row) → (turned_on s p o).board ≡ s.board
board_turn s p None = refl
board_turn s p (Some r) = by_tests (is_run s p r) (is_cut s p r)
  where
    by_tests : (a b : Bool) → (cond a (put_in s p (run_row (now s p) r)) (cond b (put_in s p (settled_row r)) s)).board ≡ s.board
    by_tests true b = refl
    by_tests false true = refl
    by_tests false false = refl

pub board_turned : (places : List ℕ) (s : State) → (turned_all places s).board ≡ s.board
board_turned [] s = refl
board_turned (p ∷ places) s = board_turn (turned_all places s) p (slice_get (turned_all places s).rows p) ∙ board_turned places s

-- what a name's look-up answers
pub named_by : (o : Option Key) (k : Key) (f : Fault) → Ok k ≡ ok_or o f → o ≡ Some k
named_by None k f e = absurd (cc)
named_by (Some j) k f e = let same : j ≡ k = cc in ap Some same

-- a place is found by the rows' ids
ids_long : (rs ys : List Row) → row_ids rs ≡ row_ids ys → length rs ≡ length ys
ids_long [] [] e = refl
ids_long [] (y ∷ ys) e = absurd (cc)
ids_long (r ∷ rs) [] e = absurd (cc)
ids_long (r ∷ rs) (y ∷ ys) e = let rest : row_ids rs ≡ row_ids ys = cc in ap suc (ids_long rs ys rest)

ids_find : (i : ℕ) (rs ys : List Row) (n : ℕ) → row_ids rs ≡ row_ids ys
    → option_map (λ e. e.0 + 1) (find (λ (e : ℕ × Row). eqb e.1.id.0 i) (enumerate_from n rs)) ≡ option_map (λ e. e.0 + 1) (find (λ (e : ℕ × Row). eqb e.1.id.0 i) (enumerate_from n ys))
ids_find i [] [] n e = refl
ids_find i [] (y ∷ ys) n e = absurd (cc)
ids_find i (r ∷ rs) [] n e = absurd (cc)
ids_find i (r ∷ rs) (y ∷ ys) n e =
    let rest : row_ids rs ≡ row_ids ys = cc in
    let same : r.id.0 ≡ y.id.0 = cc in
    by_test (ids_find i rs ys (n + 1) rest) (eqb y.id.0 i) (eqb r.id.0 i) (ap (λ j. eqb j i) same)
  where
    by_test : option_map (λ e. e.0 + 1) (find (λ (e : ℕ × Row). eqb e.1.id.0 i) (enumerate_from (n + 1) rs)) ≡ option_map (λ e. e.0 + 1) (find (λ (e : ℕ × Row). eqb e.1.id.0 i) (enumerate_from (n + 1) ys))
        → (b c : Bool) → c ≡ b
        → option_map (λ e. e.0 + 1) (cond c (Some (n, r)) (find (λ (e : ℕ × Row). eqb e.1.id.0 i) (enumerate_from (n + 1) rs)))
        ≡ option_map (λ e. e.0 + 1) (cond b (Some (n, y)) (find (λ (e : ℕ × Row). eqb e.1.id.0 i) (enumerate_from (n + 1) ys)))
    by_test later true true same = refl
    by_test later true false same = absurd (let x : false ≡ true = same in cc)
    by_test later false true same = absurd (let x : true ≡ false = same in cc)
    by_test later false false same = later

pub spot_stays : (s t : State) (spot : Spot) → row_ids t.rows ≡ row_ids s.rows → place_of_spot t spot ≡ place_of_spot s spot
spot_stays s t AtStart e = refl
spot_stays s t (After id) e = ids_find id.0 t.rows s.rows 0 e
spot_stays s t AtEnd e = ap Some (ids_long t.rows s.rows e)

shows_value : (o : Option Row) (v : FieldNumbers) → is_firm o ≡ true → has_value (Ok (shown_of o v)) ≡ true
shows_value None v firm = refl
shows_value (Some r) v firm = ap (λ b. has_value (Ok (cond b (Settled v) (Pending r.id)))) firm

module _ (s t : State) (places : List ℕ) (k : Key) (place : ℕ) (is : places ≡ stands_on s place k) (pass : t ≡ cut_off (turned_all places s)) where
  firm_last : place ≤ length s.rows → is_firm (origin_at (turned_all places s) place k) ≡ true
  firm_last within =
      ap (λ (ps : List ℕ). is_firm (origin_at (turned_all ps s) place k)) is
      ∙ settles (has_key (k ∷ [])) (take place s.rows) 0 place s (let long = length-take-le place s.rows within in omega (arith, long))
      (λ i r at. let front : i ≡ 0 + i = omega arith in ap (slice_get s.rows) (sym front) ∙ get_taken s.rows place i r at) (λ j w. refl) k (or_left (key_eq k k) false (key_eq-same k))

  firm_then : place ≤ length s.rows → is_firm (origin_at t place k) ≡ true
  firm_then within =
      let u : State = turned_all places s in
      let rows : t.rows ≡ cut (start_world u.inputs) from_start u.rows = ap (λ (z : State). z.rows) (pass ∙ cut_off_is u) in
      ap (λ (rs : List Row). is_firm (origin row_plan k (take place rs))) rows
      ∙ firm_more (origin row_plan k (take place u.rows)) (origin row_plan k (take place (cut (start_world u.inputs) from_start u.rows)))
      (origin_more k (take place u.rows) (take place (cut (start_world u.inputs) from_start u.rows)) (more_take place u.rows (cut (start_world u.inputs) from_start u.rows) (more_cut (start_world u.inputs) from_start u.rows)))
      (firm_last within)

  pub shown_then : (name : KeyName) (spot : Spot) → key_named s.board name ≡ Some k → place_of_spot s spot ≡ Some place → place ≤ length s.rows → row_ids (turned_all places s).rows ≡ row_ids s.rows → has_value (show_reply t name spot) ≡ true
  shown_then name spot named spotted within ids =
      let u : State = turned_all places s in
      let board : t.board ≡ s.board = ap (λ (z : State). z.board) (pass ∙ cut_off_is u) ∙ board_turned places s in
      let same : row_ids t.rows ≡ row_ids s.rows = ap (λ (z : State). row_ids z.rows) (pass ∙ cut_off_is u) ∙ ids_cut (start_world u.inputs) from_start u.rows ∙ ids in
      ap (λ o. has_value (show_key t spot o)) (ap (λ (b : Board). key_named b name) board ∙ named)
      ∙ ap (λ o. has_value (show_from t k o)) (spot_stays s t spot same ∙ spotted)
      ∙ shows_value (origin_at t place k) (record { width = width_of t.board k; numbers = now t place k }) (firm_then within)
