-- A value to which memory was refused: a row that it stands on is still unsettled, so it isn't shown.
use Rattle.std.proofs.Common.{◌≡◌, ℕ, ◌+◌, ◌<◌, ◌≤◌, ◌⊎◌, inl, inr, List, [], ◌∷◌, ◌++◌, Bool, true, false, cond, Option, Some, None, Ok, refl, sym, ap, ◌∙◌, subst, arith, length, map, take, drop, zero, suc, slice_get, append-nil, add-zero}
use Rattle.std.proofs.Math.Path.{ap₂}
use Rattle.std.proofs.lemmas.List.{length-take-le}
use Rattle.std.proofs.lemmas.Option.{slice_get-map}
use Rattle.std.specs.Option.{option_map}
use Rattle.std.specs.Prelude.{◌&&◌, ◌||◌, not}
use Rattle.std.specs.List.{list_all, list_any}
use Rattle.paris_names.specs.declared.keys.Key.{Key}
use Rattle.paris_names.specs.Keys.{key_eq, has_key}
use Rattle.paris_names.proofs.KeyLists.{key_eq-true, key_eq-same}
use Rattle.paris_names.specs.declared.names.KeyName.{KeyName}
use Rattle.paris_names.specs.declared.ids.Spot.{Spot}
use Rattle.paris_board.specs.Board.{Board, key_named, width_of}
use Rattle.paris_field.specs.Fields.{FieldNumbers}
use Rattle.paris_model.specs.Frame.{World}
use Rattle.paris_model.specs.Instructions.{reads, writes, one}
use Rattle.paris_edits.specs.Rows.{is_settled}
use Rattle.paris_events.specs.State.{Row, State, Inputs, row_ids, place_of_spot, start_world}
use Rattle.paris_events.specs.Show.{now, origin_at, shown_of, show_from, show_key}
use Rattle.paris_events.specs.declared.events.Shown.TheVariants.{Settled, Pending}
use Rattle.paris_events.specs.Events.{has_value}
use Rattle.paris_events.specs.Orders.{is_firm}
use Rattle.paris_events.specs.CutOff.{IsAtRest, is_cut, cut_off}
use Rattle.paris_events.specs.Settling.{due, is_same, settled_row, run_row, unsettled_rows}
use Rattle.paris_events.proofs.Passes.{cut, firm_after, from_start}
use Rattle.paris_events.proofs.Passing.{firm_behind, firm_start, cut_off_is}
use Rattle.paris_events.proofs.Anywhere.{get_cut}
use Rattle.paris_events.proofs.Counting.{none_due}
use Rattle.paris_events.proofs.Ends.{world_is, ids_cut}
use Rattle.paris_events.proofs.Rests.{at_rest}
use Rattle.paris_events.proofs.Tests.{and_first, and_second}
use Rattle.paris_book.specs.Entries.{Entry, machine_row}
use Rattle.paris_book.specs.Kept.{ripen, Sound}
use Rattle.paris_book.specs.Rounds.{Advances}
use Rattle.paris_book.specs.Steps.{is_free, is_run, settled_on, left_on, left_at, turned_on, turned_at}
use Rattle.paris_book.specs.Stopped.{IsStoppedFor, StopsAt, StopsAmong}
use Rattle.paris_book.specs.Wanted.{SettledAreFirm, is_wanted, wants, wanted_before, has_turn, wanted_from, stands_on, turned_all, places_from, places_of_key, wanted_places}
use Rattle.paris_book.proofs.Advancing.{put_in, left_cut, left_differs, left_unsettled, more_cut}
use Rattle.paris_book.proofs.Firmer.{More, more_same, more_set}
use Rattle.paris_book.proofs.Inserts.{state_of}
use Rattle.paris_book.proofs.Settled.{Cut, cut_leaves}
use Rattle.paris_book.proofs.Wanting.{Stand, or_left, or_right, pass_all, apart, firm_next, get_taken, settles, board_turned, spot_stays}

-- ---- what a settled row reads

ripen_is : (h : Key → Bool) (e : Entry) → ripen h e ≡ firm_after h (machine_row e)
unfolding ripen firm_after
ripen_is h e = refl

sound_firm : (w : World) (h : Key → Bool) (es : List Entry) (i : ℕ) (e : Entry) → Sound w h es → slice_get es i ≡ Some e → is_settled e.1.status ≡ true
    → list_all (firm_behind h (take i (map machine_row es))) (reads e.1.plan) ≡ true
sound_firm w h [] i e s at settled = absurd (cc)
sound_firm w h (x ∷ es) zero e s at settled =
    let same : x ≡ e = cc in
    subst (λ (z : Entry). list_all h (reads z.1.plan) ≡ true) same (s.0.origins (ap (λ (z : Entry). is_settled z.1.status) same ∙ settled))
sound_firm w h (x ∷ es) (suc i) e s at settled =
    subst (λ (g : Key → Bool). list_all (firm_behind g (take i (map machine_row es))) (reads e.1.plan) ≡ true) (ripen_is h x) (sound_firm (one x.1.plan w) (ripen h x) es i e s.1 at settled)

pub settled_firm : (b : Board) (n m : ℕ) (inputs : Inputs) (es : List Entry) (s : State) → state_of b n m inputs es ≡ s → Sound (start_world inputs) (λ _. true) es → SettledAreFirm s
settled_firm b n m inputs es s view sound = subst SettledAreFirm view firm
  where
    by_entry : (place : ℕ) (r : Row) → is_settled r.status ≡ true → (o : Option Entry) → slice_get es place ≡ o → option_map machine_row o ≡ Some r → list_all (λ k. is_firm (origin_at (state_of b n m inputs es) place k)) (reads r.plan) ≡ true
    by_entry place r settled None at e = absurd (cc)
    by_entry place r settled (Some x) at e =
        let same : machine_row x ≡ r = cc in
        let front = sound_firm (start_world inputs) (λ _. true) es place x sound at (ap (λ (z : Row). is_settled z.status) same ∙ settled) in
        subst (λ (z : Row). list_all (λ k. is_firm (origin_at (state_of b n m inputs es) place k)) (reads z.plan) ≡ true) same
        (ap (λ (h : Key → Bool). list_all h (reads x.1.plan)) (firm_start (take place (map machine_row es))) ∙ front)

    firm : SettledAreFirm (state_of b n m inputs es)
    firm place r at settled = by_entry place r settled (slice_get es place) refl (sym (slice_get-map machine_row es place) ∙ at)

-- ---- keys

any_key : (test : Key → Bool) (ks : List Key) → list_any test ks ≡ true → (k : Key) × (has_key ks k ≡ true) × (test k ≡ true)
any_key test [] h = absurd (let x : false ≡ true = h in cc)
any_key test (j ∷ ks) h = by_test (λ e. any_key test ks e) (test j) refl h
  where
    by_test : (list_any test ks ≡ true → (k : Key) × (has_key ks k ≡ true) × (test k ≡ true)) → (b : Bool) → test j ≡ b → (b || list_any test ks) ≡ true → (k : Key) × (has_key (j ∷ ks) k ≡ true) × (test k ≡ true)
    by_test later true t e = (j, or_left (key_eq j j) (has_key ks j) (key_eq-same j), t)
    by_test later false t e = let rest = later e in (rest.0, or_right (key_eq rest.0 j) (has_key ks rest.0) rest.1, rest.2)

all_keys : (test : Key → Bool) (ks : List Key) (k : Key) → list_all test ks ≡ true → has_key ks k ≡ true → test k ≡ true
all_keys test [] k a h = absurd (let x : false ≡ true = h in cc)
all_keys test (j ∷ ks) k a h = by_same (λ e. all_keys test ks k (and_second (test j) (list_all test ks) a) e) (key_eq k j) refl h
  where
    by_same : (has_key ks k ≡ true → test k ≡ true) → (b : Bool) → key_eq k j ≡ b → (b || has_key ks k) ≡ true → test k ≡ true
    by_same later true e x = subst (λ y. test y ≡ true) (sym (key_eq-true k j e)) (and_first (test j) (list_all test ks) a)
    by_same later false e x = later x

one_key : (k j : Key) → has_key (k ∷ []) j ≡ true → j ≡ k
one_key k j h = by_same (key_eq j k) refl h
  where
    by_same : (b : Bool) → key_eq j k ≡ b → (b || false) ≡ true → j ≡ k
    by_same true e x = key_eq-true j k e
    by_same false e x = absurd (let y : false ≡ true = x in cc)

-- ---- rows with the same plans

more_then : (xs ys zs : List Row) → More xs ys → More ys zs → More xs zs
more_then [] [] [] m n = tt
more_then [] [] (z ∷ zs) m n = absurd n
more_then [] (y ∷ ys) zs m n = absurd m
more_then (x ∷ xs) [] zs m n = absurd m
more_then (x ∷ xs) (y ∷ ys) [] m n = absurd n
more_then (x ∷ xs) (y ∷ ys) (z ∷ zs) m n = ((n.0.0 ∙ m.0.0, λ h. n.0.1 (m.0.1 h)), more_then xs ys zs m.1 n.1)

get_more : (rs ys : List Row) → More rs ys → (i : ℕ) (r : Row) → slice_get rs i ≡ Some r → (x : Row) × (slice_get ys i ≡ Some x) × (x.plan ≡ r.plan)
get_more [] ys m i r at = absurd (cc)
get_more (x ∷ rs) [] m i r at = absurd m
get_more (x ∷ rs) (y ∷ ys) m zero r at = let same : x ≡ r = cc in (y, refl, m.0.0 ∙ ap (λ (z : Row). z.plan) same)
get_more (x ∷ rs) (y ∷ ys) m (suc i) r at = get_more rs ys m.1 i r at

more_turn : (s : State) (p : ℕ) (o : Option Row) → slice_get s.rows p ≡ o → More s.rows (turned_on s p o).rows
more_turn s p None at = more_same s.rows
more_turn s p (Some r) at = by_tests (is_run s p r) (is_cut s p r)
  where
    by_tests : (a b : Bool) → More s.rows (cond a (put_in s p (run_row (now s p) r)) (cond b (put_in s p (settled_row r)) s)).rows
    by_tests true b = more_set s.rows p r (run_row (now s p) r) at (refl, λ _. refl)
    by_tests false true = more_set s.rows p r (settled_row r) at (refl, λ _. refl)
    by_tests false false = more_same s.rows

more_turned : (places : List ℕ) (s : State) → More s.rows (turned_all places s).rows
more_turned [] s = more_same s.rows
more_turned (p ∷ places) s =
    let u : State = turned_all places s in
    more_then s.rows u.rows (turned_at u p).rows (more_turned places s) (more_turn u p (slice_get u.rows p) refl)

-- ---- going back from keys that are settled

abbrev Plans : List Row → ℕ → List Row → Type 0
Plans rs n all = (i : ℕ) (r : Row) → slice_get rs i ≡ Some r → (x : Row) × (slice_get all (n + i) ≡ Some x) × (x.plan ≡ r.plan)

plans_here : (r : Row) (rs : List Row) (n : ℕ) (all : List Row) → Plans (r ∷ rs) n all → (x : Row) × (slice_get all n ≡ Some x) × (x.plan ≡ r.plan)
plans_here r rs n all plans = let x = plans 0 r refl in (x.0, ap (slice_get all) (sym (add-zero n)) ∙ x.1, x.2)

plans_next : (r : Row) (rs : List Row) (n : ℕ) (all : List Row) → Plans (r ∷ rs) n all → Plans rs (suc n) all
plans_next r rs n all plans i q at = let place : suc n + i ≡ n + suc i = omega arith in let x = plans (suc i) q at in (x.0, ap (slice_get all) place ∙ x.1, x.2)

abbrev AreSettled : State → List ℕ → Type 0
AreSettled t [] = Unit {0}
AreSettled t (p ∷ ps) = (settled_on (slice_get t.rows p) ≡ true) × AreSettled t ps

settled_both : (t : State) (ps qs : List ℕ) → AreSettled t ps → AreSettled t qs → AreSettled t (ps ++ qs)
settled_both t [] qs a b = b
settled_both t (p ∷ ps) qs a b = (a.0, settled_both t ps qs a.1 b)

settled_among : (t : State) (todo had : List ℕ) (p : ℕ) → AreSettled t (todo ++ p ∷ had) → settled_on (slice_get t.rows p) ≡ true
settled_among t [] had p a = a.0
settled_among t (q ∷ todo) had p a = settled_among t todo had p a.1

module _ (t : State) (sound : SettledAreFirm t) (want : Key → Bool) where
  -- where the keys that are wanted behind rows are settled, so are the rows that these stand on, and the keys that are wanted before them
  back : (rs : List Row) (n m : ℕ) → m ≡ n + length rs → Plans rs n t.rows → ((k : Key) → want k ≡ true → is_firm (origin_at t m k) ≡ true)
      → AreSettled t (wanted_from want n rs) × ((k : Key) → wanted_before want rs k ≡ true → is_firm (origin_at t n k) ≡ true)
  back [] n m e plans firm = (tt, λ k w. let here : m ≡ n = e ∙ add-zero n in ap (λ p. is_firm (origin_at t p k)) (sym here) ∙ firm k w)
  back (r ∷ rs) n m e plans firm = by_wanted (back rs (suc n) m far (plans_next r rs n t.rows plans) firm) (is_wanted want_here r) refl
    where
      want_here : Key → Bool
      want_here = wanted_before want rs

      far : m ≡ suc n + length rs
      far = omega (arith, e)

      here : (x : Row) × (slice_get t.rows n ≡ Some x) × (x.plan ≡ r.plan)
      here = plans_here r rs n t.rows plans

      step : (k : Key) (b : Bool) → has_key (writes r.plan) k ≡ b → is_firm (origin_at t (suc n) k) ≡ cond b (is_settled here.0.status) (is_firm (origin_at t n k))
      step k b x = firm_next t n here.0 k here.1 ∙ ap (λ c. cond c (is_settled here.0.status) (is_firm (origin_at t n k))) (ap (λ p. has_key (writes p) k) here.2 ∙ x)

      by_wanted : AreSettled t (wanted_from want (suc n) rs) × ((k : Key) → want_here k ≡ true → is_firm (origin_at t (suc n) k) ≡ true) → (a : Bool) → is_wanted want_here r ≡ a → AreSettled t (wanted_from want n (r ∷ rs)) × ((k : Key) → wanted_before want (r ∷ rs) k ≡ true → is_firm (origin_at t n k) ≡ true)
      by_wanted later false unwanted = (settled_both t (wanted_from want (suc n) rs) (cond (has_turn want_here r) (n ∷ []) []) later.0 none, before)
        where
          none : AreSettled t (cond (has_turn want_here r) (n ∷ []) [])
          none = subst (λ c. AreSettled t (cond c (n ∷ []) [])) (sym (ap (λ a. a && not (is_settled r.status)) unwanted)) tt

          before : (k : Key) → wanted_before want (r ∷ rs) k ≡ true → is_firm (origin_at t n k) ≡ true
          before k w =
              let behind : want_here k ≡ true = sym (ap (λ a. cond a (cond (not (is_settled r.status) && has_key (reads r.plan) k) true (cond (has_key (writes r.plan) k) false (want_here k))) (want_here k)) unwanted) ∙ w in
              sym (step k false (apart want_here (writes r.plan) k unwanted behind)) ∙ later.1 k behind
      by_wanted later true wanted = (settled_both t (wanted_from want (suc n) rs) (cond (has_turn want_here r) (n ∷ []) []) later.0 (this (has_turn want_here r)), before)
        where
          written : (k : Key) × (has_key (writes r.plan) k ≡ true) × (want_here k ≡ true)
          written = any_key want_here (writes r.plan) wanted

          settled : is_settled here.0.status ≡ true
          settled = sym (step written.0 true written.1) ∙ later.1 written.0 written.2

          this : (b : Bool) → AreSettled t (cond b (n ∷ []) [])
          this true = (ap settled_on here.1 ∙ settled, tt)
          this false = tt

          by_key : (k : Key) (b c : Bool) → (not (is_settled r.status) && has_key (reads r.plan) k) ≡ b → has_key (writes r.plan) k ≡ c → cond b true (cond c false (want_here k)) ≡ true → is_firm (origin_at t n k) ≡ true
          by_key k true c x y w =
              all_keys (λ j. is_firm (origin_at t n j)) (reads here.0.plan) k (sound n here.0 here.1 settled)
              (ap (λ p. has_key (reads p) k) here.2 ∙ and_second (not (is_settled r.status)) (has_key (reads r.plan) k) x)
          by_key k false true x y w = absurd (let z : false ≡ true = w in cc)
          by_key k false false x y w = sym (step k false y) ∙ later.1 k w

          before : (k : Key) → wanted_before want (r ∷ rs) k ≡ true → is_firm (origin_at t n k) ≡ true
          before k w =
              by_key k (not (is_settled r.status) && has_key (reads r.plan) k) (has_key (writes r.plan) k) refl refl
              (sym (ap (λ a. cond a (cond (not (is_settled r.status) && has_key (reads r.plan) k) true (cond (has_key (writes r.plan) k) false (want_here k))) (want_here k)) wanted) ∙ w)

-- ---- one of the places

never_nil : (ys zs : List ℕ) (p : ℕ) → [] ≡ ys ++ p ∷ zs → ⊥
never_nil [] zs p e = (cc)
never_nil (y ∷ ys) zs p e = (cc)

last_of : (xs ys zs : List ℕ) (n p : ℕ) → xs ++ n ∷ [] ≡ ys ++ p ∷ zs → ((zs ≡ []) × (p ≡ n)) ⊎ ((us : List ℕ) × (zs ≡ us ++ n ∷ []) × (xs ≡ ys ++ p ∷ us))
last_of [] [] zs n p e =
    let tail : zs ≡ [] = cc in
    let head : p ≡ n = cc in
    inl (tail, head)
last_of [] (y ∷ ys) zs n p e = let tail : [] ≡ ys ++ p ∷ zs = cc in absurd (never_nil ys zs p tail)
last_of (x ∷ xs) [] zs n p e =
    let tail : zs ≡ xs ++ n ∷ [] = cc in
    let head : x ≡ p = cc in
    inr (xs, tail, ap (λ z. z ∷ xs) head)
last_of (x ∷ xs) (y ∷ ys) zs n p e =
    let tail : xs ++ n ∷ [] ≡ ys ++ p ∷ zs = cc in
    let head : x ≡ y = cc in
    elim (last_of xs ys zs n p tail) [
      | inl z ↦ inl z
      | inr z ↦ inr (z.0, z.1, ap₂ (λ a bs. a ∷ bs) head z.2)
    ]

before_front : (want : Key → Bool) (front ys : List Row) → wanted_before want (front ++ ys) ≡ wanted_before (wanted_before want ys) front
before_front want [] ys = refl
before_front want (r ∷ front) ys = ap (λ h. wants h r) (before_front want front ys)

-- the rows before the one at a place that has a turn, that row, and those behind it
record Split (want : Key → Bool) (n : ℕ) (rs : List Row) (p : ℕ) (had : List ℕ) : Type 0 where
  front : List Row
  row : Row
  rest : List Row
  rows : rs ≡ front ++ row ∷ rest
  place : p ≡ n + length front
  turn : has_turn (wanted_before want rest) row ≡ true
  before : had ≡ wanted_from (wanted_before want (row ∷ rest)) n front

split : (want : Key → Bool) (rs : List Row) (n p : ℕ) (todo had : List ℕ) → wanted_from want n rs ≡ todo ++ p ∷ had → Split want n rs p had
split want [] n p todo had e = absurd (never_nil todo had p e)
split want (r ∷ rs) n p todo had e = by_turn (λ us x. split want rs (suc n) p todo us x) (has_turn (wanted_before want rs) r) refl e
  where
    later : List ℕ
    later = wanted_from want (suc n) rs

    add : (us : List ℕ) (b : Bool) → has_turn (wanted_before want rs) r ≡ b → Split want (suc n) rs p us → had ≡ us ++ cond b (n ∷ []) [] → Split want n (r ∷ rs) p had
    add us b t x h =
        let place = x.place in
        let here : has_turn (wanted_before (wanted_before want (x.row ∷ x.rest)) x.front) r ≡ b = ap (λ g. has_turn g r) (sym (before_front want x.front (x.row ∷ x.rest))) ∙ ap (λ ys. has_turn (wanted_before want ys) r) (sym x.rows) ∙ t in
        record {
          front = r ∷ x.front;
          row = x.row;
          rest = x.rest;
          rows = ap (λ ys. r ∷ ys) x.rows;
          place = omega (arith, place);
          turn = x.turn;
          before = h ∙ ap₂ (λ ys c. ys ++ cond c (n ∷ []) []) x.before (sym here);
        }

    by_turn : ((us : List ℕ) → later ≡ todo ++ p ∷ us → Split want (suc n) rs p us) → (b : Bool) → has_turn (wanted_before want rs) r ≡ b → later ++ cond b (n ∷ []) [] ≡ todo ++ p ∷ had → Split want n (r ∷ rs) p had
    by_turn onward false t x = add had false t (onward had (sym (append-nil later) ∙ x)) (sym (append-nil had))
    by_turn onward true t x = elim (last_of later todo had n p x) [
      | inl y ↦ record { front = []; row = r; rest = rs; rows = refl; place = y.1 ∙ sym (add-zero n); turn = t; before = y.0 }
      | inr y ↦ add y.0 true t (onward y.0 y.2) y.1
    ]

get_middle : (front : List Row) (r : Row) (rest : List Row) → slice_get (front ++ r ∷ rest) (length front) ≡ Some r
get_middle [] r rest = refl
get_middle (x ∷ front) r rest = get_middle front r rest

get_front : (front ys : List Row) (i : ℕ) (r : Row) → slice_get front i ≡ Some r → slice_get (front ++ ys) i ≡ Some r
get_front [] ys i r at = absurd (cc)
get_front (x ∷ front) ys zero r at = at
get_front (x ∷ front) ys (suc i) r at = get_front front ys i r at

not_settled : (a b : Bool) → (a && not b) ≡ true → (a ≡ true) × (b ≡ false)
not_settled true true h = absurd (let x : false ≡ true = h in cc)
not_settled true false h = (refl, refl)
not_settled false b h = absurd (let x : false ≡ true = h in cc)

module _ (s : State) (k : Key) (place p : ℕ) (todo had : List ℕ) (is : stands_on s place k ≡ todo ++ p ∷ had) where
  at_place : Split (has_key (k ∷ [])) 0 (take place s.rows) p had
  at_place = split (has_key (k ∷ [])) (take place s.rows) 0 p todo had is

  abbrev behind : Key → Bool
  behind = wanted_before (has_key (k ∷ [])) at_place.rest

  stands : slice_get s.rows p ≡ Some at_place.row
  stands =
      let number = at_place.place in
      let here : p ≡ length at_place.front = omega (arith, number) in
      get_taken s.rows place p at_place.row (ap (λ rs. slice_get rs p) at_place.rows ∙ ap (slice_get (at_place.front ++ at_place.row ∷ at_place.rest)) here ∙ get_middle at_place.front at_place.row at_place.rest)

  turns : (is_wanted behind at_place.row ≡ true) × (is_settled at_place.row.status ≡ false)
  turns = not_settled (is_wanted behind at_place.row) (is_settled at_place.row.status) at_place.turn

  fronts : Stand at_place.front 0 s.rows
  fronts i r at =
      let front : i ≡ 0 + i = omega arith in
      ap (slice_get s.rows) (sym front) ∙ get_taken s.rows place i r (ap (λ rs. slice_get rs i) at_place.rows ∙ get_front at_place.front (at_place.row ∷ at_place.rest) i r at)

  -- what the row reads is settled once the rows before it had their turn
  read_firm : (j : Key) → has_key (reads at_place.row.plan) j ≡ true → is_firm (origin_at (turned_all had s) p j) ≡ true
  read_firm j read =
      ap (λ ps. is_firm (origin_at (turned_all ps s) p j)) at_place.before
      ∙ settles (wants behind at_place.row) at_place.front 0 p s at_place.place fronts (λ i w. refl) j wanted
    where
      wanted : wants behind at_place.row j ≡ true
      wanted =
          ap₂ (λ a b. cond a (cond (not b && has_key (reads at_place.row.plan) j) true (cond (has_key (writes at_place.row.plan) j) false (behind j))) (behind j)) turns.0 turns.1
          ∙ ap (λ c. cond c true (cond (has_key (writes at_place.row.plan) j) false (behind j))) read

  -- so the row is unsettled behind the pass, where it is left
  still_left : (n : ℕ) → Advances n s (turned_all had s) → left_at (turned_all had s) p ≡ true → (r : Row) × (slice_get (cut_off (turned_all had s)).rows p ≡ Some r) × (is_settled r.status ≡ false)
  still_left n advances left = by_row (slice_get u.rows p) refl left
    where
      u : State
      u = turned_all had s

      by_row : (o : Option Row) → slice_get u.rows p ≡ o → left_on u p o ≡ true → (r : Row) × (slice_get (cut_off u).rows p ≡ Some r) × (is_settled r.status ≡ false)
      by_row None at l = absurd (let x : false ≡ true = l in cc)
      by_row (Some r) at l =
          let w : World = start_world u.inputs in
          let unsettled : is_settled r.status ≡ false = left_unsettled u p r l in
          let before : slice_get s.rows p ≡ Some r = advances.left p r at unsettled in
          let same : at_place.row ≡ r = let both : Some at_place.row ≡ Some r = sym stands ∙ before in cc in
          let free : is_free u p r ≡ true = pass_all (λ j. is_firm (origin_at u p j)) (reads r.plan) (λ j t. read_firm j (ap (λ (z : Row). has_key (reads z.plan) j) same ∙ t)) in
          let differs : is_same (now u p) r ≡ false = left_differs u p r unsettled (left_cut u p r l) free in
          let stays : slice_get (cut w from_start u.rows) p ≡ Some r = get_cut w from_start u.rows p r at (ap (λ (v : World). is_same v r) (world_is w u.rows p r at) ∙ differs) in
          (r, ap (λ (z : State). slice_get z.rows p) (cut_off_is u) ∙ stays, unsettled)

-- ---- what is shown then

shows_none : (o : Option Row) (v : FieldNumbers) → is_firm o ≡ false → has_value (Ok (shown_of o v)) ≡ false
shows_none None v firm = absurd (let x : true ≡ false = firm in cc)
shows_none (Some r) v firm = ap (λ b. has_value (Ok (cond b (Settled v) (Pending r.id)))) firm

count_here : (rs : List Row) (p : ℕ) (r : Row) → slice_get rs p ≡ Some r → is_settled r.status ≡ false → 1 ≤ unsettled_rows rs
count_here [] p r at u = absurd (cc)
count_here (x ∷ rs) zero r at u =
    let same : is_settled x.status ≡ false = let z : x ≡ r = cc in ap (λ (z : Row). is_settled z.status) z ∙ u in
    rw same (omega arith)
count_here (x ∷ rs) (suc p) r at u = let rest = count_here rs p r at u in omega (arith, rest)

drop_past : (todo had : List ℕ) (p : ℕ) → had ≡ drop (suc (length todo)) (todo ++ p ∷ had)
drop_past [] had p = refl
drop_past (q ∷ todo) had p = drop_past todo had p

drop_whole : (places : List ℕ) → [] ≡ drop (length places) places
drop_whole [] = refl
drop_whole (q ∷ places) = drop_whole places

module _ (s u t : State) (n : ℕ) (k : Key) (place : ℕ) (within : place ≤ length s.rows) (rests : IsAtRest s) (advances : Advances n s u) (pass : t ≡ cut_off u) (sound : SettledAreFirm t) where
  abbrev places : List ℕ
  places = stands_on s place k

  -- one of the rows is unsettled behind the pass
  abbrev Leaves : Type 0
  Leaves = (todo : List ℕ) × (had : List ℕ) × (p : ℕ) × (r : Row) × (places ≡ todo ++ p ∷ had) × (slice_get t.rows p ≡ Some r) × (is_settled r.status ≡ false)

  abbrev Turned : Type 0
  Turned = (m : ℕ) × (t ≡ cut_off (turned_all (drop m places) s))

  leaves : StopsAmong places s u → Leaves × Turned
  leaves (inl (same, some)) = (by_places places refl some, (length places, pass ∙ ap cut_off (same ∙ ap (λ ps. turned_all ps s) (drop_whole places))))
    where
      still : t ≡ s
      still = pass ∙ ap cut_off same ∙ rests

      by_places : (ps : List ℕ) → places ≡ ps → 0 < length ps → Leaves
      by_places [] e h = absurd (omega (arith, h))
      by_places (q ∷ qs) e h = ([], qs, q, (at_place s k place q [] qs e).row, e, ap (λ (z : State). slice_get z.rows q) still ∙ stands s k place q [] qs e, (turns s k place q [] qs e).1)
  leaves (inr x) =
      let left : left_at (turned_all x.had s) x.place ≡ true = subst (λ (z : State). left_at z x.place ≡ true) x.state x.left in
      let l = still_left s k place x.place x.todo x.had x.all n (subst (Advances n s) x.state advances) left in (
        (x.todo, x.had, x.place, l.0, x.all, ap (λ (z : State). slice_get z.rows x.place) (pass ∙ ap cut_off x.state) ∙ l.1, l.2),
        (suc (length x.todo), pass ∙ ap cut_off (x.state ∙ ap (λ ps. turned_all ps s) (drop_past x.todo x.had x.place ∙ ap (drop (suc (length x.todo))) (sym x.all)))),
      )

  more : Turned → More s.rows t.rows
  more (m, e) =
      let v : State = turned_all (drop m places) s in
      let w : World = start_world v.inputs in
      let rows : cut w from_start v.rows ≡ t.rows = ap (λ (z : State). z.rows) (sym (cut_off_is v) ∙ sym e) in
      subst (More s.rows) rows (more_then s.rows v.rows (cut w from_start v.rows) (more_turned (drop m places) s) (more_cut w from_start v.rows))

  -- so the key isn't settled at the place
  not_firm : Leaves → Turned → is_firm (origin_at t place k) ≡ false
  not_firm (todo, had, p, r, all, at, unsettled) turned = by_firm (is_firm (origin_at t place k)) refl
    where
      plans : Plans (take place s.rows) 0 t.rows
      plans i q here =
          let front : i ≡ 0 + i = omega arith in
          let x = get_more s.rows t.rows (more turned) i q (get_taken s.rows place i q here) in
          (x.0, ap (slice_get t.rows) (sym front) ∙ x.1, x.2)

      by_firm : (b : Bool) → is_firm (origin_at t place k) ≡ b → is_firm (origin_at t place k) ≡ false
      by_firm false e = e
      by_firm true e =
          let far : place ≡ 0 + length (take place s.rows) = let long = length-take-le place s.rows within in omega (arith, long) in
          let all_settled_then = back t sound (has_key (k ∷ [])) (take place s.rows) 0 place far plans (λ j w. ap (λ x. is_firm (origin_at t place x)) (one_key k j w) ∙ e) in
          let settled : settled_on (slice_get t.rows p) ≡ true = settled_among t todo had p (subst (AreSettled t) all all_settled_then.0) in
          let wrong : true ≡ false = sym settled ∙ ap settled_on at ∙ unsettled in
          absurd (cc)

  behind_pass : Cut u t
  behind_pass = subst (Cut u) (sym pass) (cut_leaves u)

  some_due : Leaves → 0 < due t
  some_due (todo, had, p, r, all, at, unsettled) = by_due (due t) refl
    where
      by_due : (m : ℕ) → due t ≡ m → 0 < due t
      by_due zero e =
          let none = none_due (start_world t.inputs) from_start (λ j. refl) t.rows (at_rest t behind_pass.rests) e in
          let some = count_here t.rows p r at unsettled in
          absurd (omega (arith, none, some))
      by_due (suc m) e = omega (arith, e)

  pub stopped_for : (name : KeyName) (spot : Spot) → key_named s.board name ≡ Some k → place_of_spot s spot ≡ Some place → StopsAmong places s u → IsStoppedFor name spot n s t
  stopped_for name spot named spotted stops = by_left (leaves stops)
    where
      wanted : places ≡ wanted_places s name spot
      wanted = sym (ap (places_of_key s spot) named ∙ ap (places_from s k) spotted)

      board : Turned → t.board ≡ s.board
      board (m, e) = ap (λ (z : State). z.board) (e ∙ cut_off_is (turned_all (drop m places) s)) ∙ board_turned (drop m places) s

      ids : row_ids t.rows ≡ row_ids s.rows
      ids = ap (λ (z : State). row_ids z.rows) (pass ∙ cut_off_is u) ∙ ids_cut (start_world u.inputs) from_start u.rows ∙ advances.ids

      by_left : Leaves × Turned → IsStoppedFor name spot n s t
      by_left (left, turned) =
          let cut = behind_pass.due in
          let so_far = advances.due in
          let some = some_due left in
          record {
            turned = (turned.0, turned.1 ∙ ap (λ ps. cut_off (turned_all (drop turned.0 ps) s)) wanted);
            pending = ap (λ o. has_value (show_key t spot o)) (ap (λ (b : Board). key_named b name) (board turned) ∙ named)
                ∙ ap (λ o. has_value (show_from t k o)) (spot_stays s t spot ids ∙ spotted)
                ∙ shows_none (origin_at t place k) (record { width = width_of t.board k; numbers = now t place k }) (not_firm left turned);
            fewer = omega (arith, cut, so_far, some);
            left = omega (arith, cut, so_far);
            stay = λ p r at settled. behind_pass.stay p r (advances.stay p r at settled) settled;
            unsettled = λ p r at still. advances.left p r (behind_pass.unsettled p r at still) still;
            same = behind_pass.same ∙ advances.same;
          }

-- ---- turns one after another

-- the rows at the last places had their turn, and those at the first ones are to have it
abbrev pub HasTurned : List ℕ → List ℕ → State → State → Type 0
HasTurned places left s t = (had : List ℕ) × (places ≡ left ++ had) × (t ≡ turned_all had s)

pub none_turned : (places : List ℕ) (s : State) → HasTurned places places s s
none_turned places s = ([], sym (append-nil places), refl)

one_back : (xs ys : List ℕ) (p : ℕ) → (xs ++ p ∷ []) ++ ys ≡ xs ++ p ∷ ys
one_back [] ys p = refl
one_back (x ∷ xs) ys p = ap (λ zs. x ∷ zs) (one_back xs ys p)

module _ (ps left rest : List ℕ) (p : ℕ) (s t : State) (h : HasTurned ps left s t) (popped : left ≡ rest ++ p ∷ []) where
  pub one_turned : (v : State) → v ≡ turned_at t p → HasTurned ps rest s v
  one_turned v e = (p ∷ h.0, h.1 ∙ ap (λ xs. xs ++ h.0) popped ∙ one_back rest h.0 p, e ∙ ap (λ z. turned_at z p) h.2)

  pub stops_at : (v : State) → v ≡ t → left_at t p ≡ true → StopsAt ps s v
  stops_at v e here = record {
    todo = rest;
    place = p;
    had = h.0;
    all = h.1 ∙ ap (λ xs. xs ++ h.0) popped ∙ one_back rest h.0 p;
    state = e ∙ h.2;
    left = subst (λ (z : State). left_at z p ≡ true) (sym e) here;
  }

-- ---- a room for the places that is refused

longer : (xs ys : List ℕ) → length xs ≤ length (xs ++ ys)
longer [] ys = omega arith
longer (x ∷ xs) ys = let rest = longer xs ys in omega (arith, rest)

fewer_from : (want : Key → Bool) (n m : ℕ) (rs : List Row) → length (wanted_from want (n + m) (drop m rs)) ≤ length (wanted_from want n rs)
fewer_from want n zero rs = let same : length (wanted_from want (n + 0) rs) ≡ length (wanted_from want n rs) = ap (λ p. length (wanted_from want p rs)) (add-zero n) in omega (arith, same)
fewer_from want n (suc m) [] = omega arith
fewer_from want n (suc m) (r ∷ rs) =
    let rest = fewer_from want (suc n) m rs in
    let place : suc n + m ≡ n + suc m = omega arith in
    let same : length (wanted_from want (suc n + m) (drop m rs)) ≡ length (wanted_from want (n + suc m) (drop m rs)) = ap (λ p. length (wanted_from want p (drop m rs))) place in
    let long = longer (wanted_from want (suc n) rs) (cond (has_turn (wanted_before want rs) r) (n ∷ []) []) in
    omega (arith, rest, same, long)

one_long : (xs : List ℕ) (k : ℕ) → 1 ≤ length (xs ++ k ∷ [])
one_long [] k = omega arith
one_long (x ∷ xs) k = omega arith

pub some_from : (want : Key → Bool) (rs : List Row) (k : ℕ) (ps : List ℕ) → ps ++ k ∷ [] ≡ wanted_from want k (drop k rs) → 0 < length (wanted_from want 0 rs)
some_from want rs k ps e =
    let few = fewer_from want 0 k rs in
    let front : 0 + k ≡ k = omega arith in
    let same : length (wanted_from want (0 + k) (drop k rs)) ≡ length (ps ++ k ∷ []) = ap (λ p. length (wanted_from want p (drop k rs))) front ∙ ap length (sym e) in
    let one = one_long ps k in
    omega (arith, few, same, one)
