-- The first ready row that a value stands on, as it is found on the way back from the value, and the order for it.
use Rattle.std.proofs.Common.{◌≡◌, ℕ, ◌+◌, ◌<◌, ◌≤◌, List, [], ◌∷◌, ◌++◌, Bool, true, false, cond, Option, Some, None, Err, refl, sym, ap, ◌∙◌, subst, arith, eqb, map, length, take, drop, zero, suc, set, slice_get}
use Rattle.std.proofs.Math.Path.{ap₂, fun_ext}
use Rattle.std.proofs.lemmas.Bool.{eq-eqb}
use Rattle.std.proofs.lemmas.List.{length-map, length-take-le}
use Rattle.std.proofs.lemmas.Slice.Eq.{bytes_eq-Decides}
use Rattle.std.specs.Prelude.{◌&&◌, ◌||◌, IfSome, IsSome}
use Rattle.std.specs.Cmp.Lexicographic.{pointwise}
use Rattle.std.specs.List.{list_all, list_any, find, enumerate_from}
use Rattle.std.specs.Option.{option_map, unwrap_or}
use Rattle.paris_names.specs.declared.faults.Fault.{Fault}
use Rattle.paris_names.specs.declared.ids.Spot.{Spot}
use Rattle.paris_names.specs.declared.keys.Key.{Key}
use Rattle.paris_names.specs.declared.names.KeyName.{KeyName}
use Rattle.paris_names.specs.Keys.{has_key}
use Rattle.paris_board.specs.Board.{Board, key_named}
use Rattle.paris_field.specs.Fields.{FieldNumbers, field_eq}
use Rattle.paris_model.specs.Instructions.{reads}
use Rattle.paris_instr.proofs.ReflexivePlans.{plan_same}
use Rattle.paris_exec.specs.Tasks.{Task}
use Rattle.paris_edits.specs.Rows.{is_settled, is_waiting}
use Rattle.paris_edits.specs.declared.rows.Status.{Status}
use Rattle.paris_edits.specs.declared.rows.Status.TheVariants.{Waiting, Out, Settled}
use Rattle.paris_edits.specs.declared.verdicts.Verdict.TheVariants.{Kept}
use Rattle.paris_events.specs.State.{Row, State, Inputs, IdsApart, row_ids, find_row, place_of_spot}
use Rattle.paris_events.specs.Show.{origin_at, show_from, show_key, show_reply}
use Rattle.paris_events.specs.Orders.{is_firm, is_ready, inputs_now, order_of}
use Rattle.paris_events.specs.Results.{verdict_at, verdict_on, verdict_of}
use Rattle.paris_events.proofs.Finds.{eqb_apart, find_at_place}
use Rattle.paris_events.proofs.Runs.{find_put}
use Rattle.paris_events.proofs.Tests.{and_first, and_second}
use Rattle.paris_book.specs.Entries.{Entry, machine_row, seen, rows_seen}
use Rattle.paris_book.specs.OrdersFor.{is_ready_among, first_ready_among, order_for}
use Rattle.paris_book.specs.Statuses.{next_unsettled}
use Rattle.paris_book.specs.Steps.{is_free, order_on}
use Rattle.paris_book.specs.Wanted.{has_turn, wanted_before, wanted_from, stands_on, places_from, places_of_key, wanted_places}
use Rattle.paris_book.proofs.Finds.{found_by, found_passes, row_at}
use Rattle.paris_book.proofs.Inserts.{state_of}
use Rattle.paris_book.proofs.Takes.{waiting_unsettled}
use Rattle.paris_book.proofs.Wanting.{settled_under}

-- ---- which places are those of rows that have a turn

and_none : (b : Bool) → (b && false) ≡ false
and_none true = refl
and_none false = refl

and_all : (b : Bool) → (b && true) ≡ b
and_all true = refl
and_all false = refl

or_none : (a b : Bool) → (a || (b && false)) ≡ a
or_none true b = refl
or_none false b = and_none b

or_false : (b : Bool) → (b || false) ≡ b
or_false true = refl
or_false false = refl

or_assoc : (a b c : Bool) → (a || (b || c)) ≡ ((a || b) || c)
or_assoc true b c = refl
or_assoc false b c = refl

any_last : (q : ℕ → Bool) (xs : List ℕ) (b : Bool) (n : ℕ) → list_any q (xs ++ cond b (n ∷ []) []) ≡ (list_any q xs || (b && q n))
any_last q [] true n = or_false (q n)
any_last q [] false n = refl
any_last q (x ∷ xs) b n = ap (λ c. q x || c) (any_last q xs b n) ∙ or_assoc (q x) (list_any q xs) (b && q n)

-- a place before all rows isn't one of them
none_before : (want : Key → Bool) (n m : ℕ) (rs : List Row) → m < n → list_any (λ p. eqb p m) (wanted_from want n rs) ≡ false
none_before want n m [] less = refl
none_before want n m (r ∷ rs) less =
    any_last (λ p. eqb p m) (wanted_from want (suc n) rs) (has_turn (wanted_before want rs) r) n
    ∙ ap₂ (λ a c. a || (has_turn (wanted_before want rs) r && c)) (none_before want (suc n) m rs (omega (arith, less))) (eqb_apart n m (λ same. omega (arith, less, same)))
    ∙ and_none (has_turn (wanted_before want rs) r)

-- nor is one behind them
none_behind : (want : Key → Bool) (n m : ℕ) (rs : List Row) → n + length rs ≤ m → list_any (λ p. eqb p m) (wanted_from want n rs) ≡ false
none_behind want n m [] long = refl
none_behind want n m (r ∷ rs) long =
    any_last (λ p. eqb p m) (wanted_from want (suc n) rs) (has_turn (wanted_before want rs) r) n
    ∙ ap₂ (λ a c. a || (has_turn (wanted_before want rs) r && c)) (none_behind want (suc n) m rs (omega (arith, long))) (eqb_apart n m (λ same. omega (arith, long, same)))
    ∙ and_none (has_turn (wanted_before want rs) r)

-- and that of a row is one where the row has a turn
turn_at : (want : Key → Bool) (n k m : ℕ) (rs : List Row) (r : Row) → m ≡ n + k → slice_get rs k ≡ Some r → list_any (λ p. eqb p m) (wanted_from want n rs) ≡ has_turn (wanted_before want (drop (suc k) rs)) r
turn_at want n k m [] r is at = absurd (cc)
turn_at want n zero m (y ∷ rs) r is at =
    let same : y ≡ r = cc in
    let here : n ≡ m = omega (arith, is) in
    any_last (λ p. eqb p m) (wanted_from want (suc n) rs) (has_turn (wanted_before want rs) y) n
    ∙ ap₂ (λ a c. a || (has_turn (wanted_before want rs) y && c)) (none_before want (suc n) m rs (omega (arith, is))) (eq-eqb n m here)
    ∙ and_all (has_turn (wanted_before want rs) y)
    ∙ ap (has_turn (wanted_before want rs)) same
turn_at want n (suc k) m (y ∷ rs) r is at =
    any_last (λ p. eqb p m) (wanted_from want (suc n) rs) (has_turn (wanted_before want rs) y) n
    ∙ ap₂ (λ a c. a || (has_turn (wanted_before want rs) y && c)) (turn_at want (suc n) k m rs r (omega (arith, is)) at) (eqb_apart n m (λ same. omega (arith, is, same)))
    ∙ or_none (has_turn (wanted_before want (drop (suc k) rs)) r) (has_turn (wanted_before want rs) y)

get_take : {X : Type 0} (xs : List X) (n k : ℕ) (x : X) → k < n → slice_get xs k ≡ Some x → slice_get (take n xs) k ≡ Some x
get_take [] n k x less at = absurd (cc)
get_take (y ∷ xs) zero k x less at = absurd (omega (arith, less))
get_take (y ∷ xs) (suc n) zero x less at = at
get_take (y ∷ xs) (suc n) (suc k) x less at = get_take xs n k x (omega (arith, less)) at

-- ---- the first that passes a test

module _ {X : Type 0} where
  drop_here : (xs : List X) (k : ℕ) (x : X) → slice_get xs k ≡ Some x → drop k xs ≡ x ∷ drop (suc k) xs
  drop_here [] k x at = absurd (cc)
  drop_here (y ∷ xs) zero x at = let same : y ≡ x = cc in ap (λ z. z ∷ xs) same
  drop_here (y ∷ xs) (suc k) x at = drop_here xs k x at

  none_passes : (p : ℕ × X → Bool) (xs : List X) (n : ℕ) → ((i : ℕ) (x : X) → n ≤ i → p (i, x) ≡ false) → find p (enumerate_from n xs) ≡ None
  none_passes p [] n h = refl
  none_passes p (x ∷ xs) n h =
      ap (λ b. cond b (Some (n, x)) (find p (enumerate_from (n + 1) xs))) (h n x (omega arith))
      ∙ none_passes p xs (n + 1) (λ i y more. h i y (omega (arith, more)))

  -- where none of the first ones passes
  find_behind : (p : ℕ × X → Bool) (xs : List X) (n k m : ℕ) → m ≡ n + k → ((i j : ℕ) (x : X) → i < k → j ≡ n + i → slice_get xs i ≡ Some x → p (j, x) ≡ false) → find p (enumerate_from n xs) ≡ find p (enumerate_from m (drop k xs))
  find_behind p xs n zero m is h = let same : n ≡ m = omega (arith, is) in ap (λ j. find p (enumerate_from j xs)) same
  find_behind p [] n (suc k) m is h = refl
  find_behind p (x ∷ xs) n (suc k) m is h =
      ap (λ b. cond b (Some (n, x)) (find p (enumerate_from (n + 1) xs))) (h 0 n x (omega arith) (omega arith) refl)
      ∙ find_behind p xs (n + 1) k m (omega (arith, is)) (λ i j y less place at. h (suc i) j y (omega (arith, less)) (omega (arith, place)) at)

-- ---- on the way back from a value

abbrev pub passes : List Entry → ℕ → Key → ℕ × Row → Bool
passes es place key e = is_ready_among (rows_seen es) (stands_on (rows_seen es) place key) e.0 e.1

-- the first ready row that a value stands on among those from a place on
abbrev pub first_from : List Entry → ℕ → Key → ℕ → Option ℕ
first_from es place key at = option_map (λ (e : ℕ × Row). e.0) (find (passes es place key) (enumerate_from at (drop at (map machine_row es))))

pub first_begins : (es : List Entry) (place : ℕ) (key : Key) → place ≤ length es → None ≡ first_from es place key place
first_begins es place key within =
    let rs = map machine_row es in
    let rows = length-map es machine_row in
    let front = length-take-le place rs (omega (arith, within, rows)) in
    sym (ap (option_map (λ (e : ℕ × Row). e.0)) (none_passes (passes es place key) (drop place rs) place
    (λ i r more. ap (λ b. b && is_ready (rows_seen es) i r) (none_behind (has_key (key ∷ [])) 0 i (take place rs) (omega (arith, front, more))))))

pub first_past : (es : List Entry) (place at k : ℕ) (key : Key) (e : Entry) → slice_get es k ≡ Some e → at ≤ place → at ≡ suc k → (h : Key → Bool)
    → ((j : Key) → h j ≡ wanted_before (has_key (key ∷ [])) (drop at (take place (map machine_row es))) j)
    → (turn : Bool) → turn ≡ has_turn h (machine_row e) → (behind : Option ℕ) → behind ≡ first_from es place key at
    → cond (turn && is_ready (rows_seen es) k (machine_row e)) (Some k) behind ≡ first_from es place key k
first_past es place at k key e here below next h marks turn has behind so_far =
    let rs = map machine_row es in
    let r = machine_row e in
    let want = has_key (key ∷ []) in
    let ready = is_ready (rows_seen es) k r in
    let after : k + 1 ≡ at = omega (arith, next) in
    let among : list_any (λ p. eqb p k) (stands_on (rows_seen es) place key) ≡ turn =
    turn_at want 0 k k (take place rs) r (omega arith) (get_take rs place k r (omega (arith, below, next)) (row_at es k e here))
    ∙ ap (λ n. has_turn (wanted_before want (drop n (take place rs))) r) (sym next)
    ∙ ap (λ f. has_turn f r) (sym (fun_ext marks))
    ∙ sym has in
    ap (λ o. cond (turn && ready) (Some k) o) so_far
    ∙ by_test (turn && ready) (find (passes es place key) (enumerate_from at (drop at rs)))
    ∙ ap (λ b. option_map (λ (e : ℕ × Row). e.0) (cond (b && ready) (Some (k, r)) (find (passes es place key) (enumerate_from at (drop at rs))))) (sym among)
    ∙ ap (λ xs. option_map (λ (e : ℕ × Row). e.0) (cond (passes es place key (k, r)) (Some (k, r)) (find (passes es place key) xs)))
    (ap₂ (λ m n. enumerate_from m (drop n rs)) (sym after) next)
    ∙ ap (λ xs. option_map (λ (e : ℕ × Row). e.0) (find (passes es place key) (enumerate_from k xs))) (sym (drop_here rs k r (row_at es k e here)))
  where
    by_test : (b : Bool) (o : Option (ℕ × Row)) → cond b (Some k) (option_map (λ (e : ℕ × Row). e.0) o) ≡ option_map (λ (e : ℕ × Row). e.0) (cond b (Some (k, machine_row e)) o)
    by_test true o = refl
    by_test false o = refl

settled_waits : (s : Status) → is_settled s ≡ true → is_waiting s ≡ false
settled_waits Waiting h = absurd (let x : false ≡ true = h in cc)
settled_waits Out h = refl
settled_waits Settled h = refl

-- rows before the first unsettled one aren't ready
pub first_ends : (es : List Entry) (place start at : ℕ) (key : Key) → start ≡ unwrap_or (next_unsettled (map machine_row es) 0) place → at ≤ start
    → first_from es place key at ≡ option_map (λ (e : ℕ × Row). e.0) (first_ready_among (rows_seen es) (stands_on (rows_seen es) place key))
first_ends es place start at key is less =
    let rs = map machine_row es in
    let places = stands_on (rows_seen es) place key in
    ap (option_map (λ (e : ℕ × Row). e.0)) (sym (find_behind (passes es place key) rs 0 at at (omega arith)
    (λ i j r below step here. ap (λ b. list_any (λ p. eqb p j) places && (b && list_all (λ k. is_firm (origin_at (rows_seen es) j k)) (reads r.plan))) (settled_waits r.status (settled_under rs place start at is less i r below here))
    ∙ and_none (list_any (λ p. eqb p j) places))))

-- ---- the order

-- nothing is ready of no rows
none_among : (s : State) → first_ready_among s [] ≡ None
none_among s = none_passes (λ e. is_ready_among s [] e.0 e.1) s.rows 0 (λ i r more. refl)

-- where the look is refused there is none
pub none_refused : (s : State) (name : KeyName) (spot : Spot) (fault : Fault) → Err fault ≡ show_reply s name spot → None ≡ order_for s name spot
none_refused s name spot fault e = by_key (key_named s.board name) e
  where
    none : None ≡ option_map (order_of s) (first_ready_among s [])
    none = sym (ap (option_map (order_of s)) (none_among s))

    by_place : (k : Key) (o : Option ℕ) → Err fault ≡ show_from s k o → None ≡ option_map (order_of s) (first_ready_among s (places_from s k o))
    by_place k None e = none
    by_place k (Some place) e = absurd (cc)

    by_key : (o : Option Key) → Err fault ≡ show_key s spot o → None ≡ option_map (order_of s) (first_ready_among s (places_of_key s spot o))
    by_key None e = none
    by_key (Some k) e = by_place k (place_of_spot s spot) e

module _ (b : Board) (n m : ℕ) (inputs : Inputs) (es : List Entry) (s : State) (y : state_of b n m inputs es ≡ s) (name : KeyName) (spot : Spot) (key : Key) (place : ℕ)
    (named : key_named s.board name ≡ Some key) (spotted : place_of_spot s spot ≡ Some place) where
  at_key : option_map (order_of (state_of b n m inputs es)) (first_ready_among (state_of b n m inputs es) (stands_on (state_of b n m inputs es) place key)) ≡ order_for s name spot
  at_key =
      ap (λ (z : State). option_map (order_of z) (first_ready_among z (stands_on z place key))) y
      ∙ ap (λ o. option_map (order_of s) (first_ready_among s (places_from s key o))) (sym spotted)
      ∙ ap (λ o. option_map (order_of s) (first_ready_among s (places_of_key s spot o))) (sym named)

  pub none_for : None ≡ option_map (λ (e : ℕ × Row). e.0) (first_ready_among (rows_seen es) (stands_on (rows_seen es) place key)) → None ≡ order_for s name spot
  none_for found = by_found (first_ready_among (state_of b n m inputs es) (stands_on (state_of b n m inputs es) place key)) found ∙ at_key
    where
      by_found : (o : Option (ℕ × Row)) → None ≡ option_map (λ (e : ℕ × Row). e.0) o → None ≡ option_map (order_of (state_of b n m inputs es)) o
      by_found None e = refl
      by_found (Some x) e = absurd (cc)

  module _ (k : ℕ) (found : Some k ≡ option_map (λ (e : ℕ × Row). e.0) (first_ready_among (rows_seen es) (stands_on (rows_seen es) place key))) where
    pub entry_for : (e : Entry) × (find (passes es place key) (enumerate_from 0 (map machine_row es)) ≡ Some (k, machine_row e)) × (slice_get es k ≡ Some e)
    entry_for = found_by (passes es place key) es k found

    free_for : is_free (seen inputs es) k (machine_row entry_for.0) ≡ true
    free_for =
        let r = machine_row entry_for.0 in
        let s = rows_seen es in
        and_second (is_waiting r.status) (is_free s k r)
        (and_second (list_any (λ p. eqb p k) (stands_on s place key)) (is_ready s k r) (found_passes (passes es place key) (enumerate_from 0 (map machine_row es)) (k, r) entry_for.1))

    some_for : Some (order_of (state_of b n m inputs es) (k, machine_row entry_for.0)) ≡ order_for s name spot
    some_for = ap (option_map (order_of (state_of b n m inputs es))) (sym entry_for.1) ∙ at_key

    pub own_for : order_on (seen inputs es) k (Some (machine_row entry_for.0)) ≡ order_for s name spot
    own_for = ap (λ b. cond b (Some (order_of (seen inputs es) (k, machine_row entry_for.0))) None) free_for ∙ some_for

    pub is_some_for : IsSome (order_for s name spot)
    is_some_for = subst IsSome some_for refl

-- ---- a result for it is kept

same_value : (x : FieldNumbers) → field_eq x x ≡ true
same_value x = ap₂ (λ a b. a && b) (eq-eqb x.width x.width refl) ((bytes_eq-Decides x.numbers x.numbers).1 refl)

same_values : (xs : List FieldNumbers) → pointwise field_eq xs xs ≡ true
same_values [] = refl
same_values (x ∷ xs) = ap₂ (λ a b. a && b) (same_value x) (same_values xs)

set_own : (rs : List Row) (k : ℕ) (r : Row) → slice_get rs k ≡ Some r → set rs k r ≡ rs
set_own [] k r at = absurd (cc)
set_own (y ∷ rs) zero r at = let same : y ≡ r = cc in ap (λ z. z ∷ rs) (sym same)
set_own (y ∷ rs) (suc k) r at = ap (λ ys. y ∷ ys) (set_own rs k r at)

-- the order of a ready row
ready_kept : (s : State) (k : ℕ) (r : Row) → IdsApart (row_ids s.rows) → slice_get s.rows k ≡ Some r → is_ready s k r ≡ true → verdict_of s (order_of s (k, r)) ≡ Kept
ready_kept s k r apart here ready =
    let found : find_row s r.id ≡ Some (k, r) = ap (λ rs. find (λ (e : ℕ × Row). eqb e.1.id.0 r.id.0) (enumerate_from 0 rs)) (sym (set_own s.rows k r here)) ∙ find_put s.rows 0 k k r r (omega arith) refl here apart in
    ap (λ o. verdict_on s o (order_of s (k, r))) found ∙ kept
  where
    kept : verdict_at s (k, r) (order_of s (k, r)) ≡ Kept
    kept =
        let unsettled : is_settled r.status ≡ false = waiting_unsettled r.status (and_first (is_waiting r.status) (is_free s k r) ready) in
        let firm : is_free s k r ≡ true = and_second (is_waiting r.status) (is_free s k r) ready in
        let values : pointwise field_eq (inputs_now s k r.plan) (inputs_now s k r.plan) ≡ true = same_values (inputs_now s k r.plan) in
        rw (eq-eqb r.edition.0 r.edition.0 refl, unsettled, plan_same r.plan, firm, values) refl

pub kept_for : (s : State) (name : KeyName) (spot : Spot) → IdsApart (row_ids s.rows) → (o : Option Task) → o ≡ order_for s name spot → IfSome o (λ t. verdict_of s t ≡ Kept)
kept_for s name spot apart None e = tt
kept_for s name spot apart (Some t) e = by_found (first_ready_among s (wanted_places s name spot)) refl e
  where
    by_found : (o : Option (ℕ × Row)) → first_ready_among s (wanted_places s name spot) ≡ o → Some t ≡ option_map (order_of s) o → verdict_of s t ≡ Kept
    by_found None found e = absurd (cc)
    by_found (Some x) found e =
        let test : ℕ × Row → Bool = λ e. is_ready_among s (wanted_places s name spot) e.0 e.1 in
        let same : t ≡ order_of s x = ap (λ o. unwrap_or o t) e in
        let at = find_at_place test s.rows 0 x.0 x.1 found in
        let place : at.0 ≡ x.0 = let is = at.1 in omega (arith, is) in
        let ready : is_ready s x.0 x.1 ≡ true = and_second (list_any (λ p. eqb p x.0) (wanted_places s name spot)) (is_ready s x.0 x.1) (found_passes test (enumerate_from 0 s.rows) x found) in
        ap (verdict_of s) same ∙ ready_kept s x.0 x.1 apart (ap (slice_get s.rows) (sym place) ∙ at.2) ready
