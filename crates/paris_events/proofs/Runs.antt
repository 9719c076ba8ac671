-- A take and the bring of its own order settle the first unsettled row, where no row is out.
use Rattle.std.proofs.Common.{◌≡◌, ℕ, ◌+◌, ◌⊎◌, inl, inr, List, [], ◌∷◌, Bool, true, false, cond, Option, Some, None, refl, sym, ap, ◌∙◌, subst, arith, eqb, map, take, zero, suc, set, slice_get}
use Rattle.std.proofs.Math.Path.{ap₂}
use Rattle.std.proofs.lemmas.Bool.{eq-eqb}
use Rattle.std.proofs.lemmas.List.{set-set, take-set}
use Rattle.std.proofs.lemmas.Slice.Eq.{bytes_eq-Decides}
use Rattle.std.specs.Prelude.{◌&&◌}
use Rattle.std.specs.Option.{option_or, option_map}
use Rattle.std.specs.List.{list_any, list_all, find, enumerate_from}
use Rattle.std.specs.Cmp.Lexicographic.{pointwise}
use Rattle.paris_names.specs.declared.keys.Key.{Key}
use Rattle.paris_names.specs.declared.ids.RowId.{RowId}
use Rattle.paris_names.specs.Keys.{has_key}
use Rattle.paris_model.specs.Instructions.{reads, writes}
use Rattle.paris_model.specs.Run.{run}
use Rattle.paris_model.specs.Recipe.{origin}
use Rattle.paris_field.specs.Fields.{FieldNumbers, field_eq}
use Rattle.paris_exec.specs.Tasks.{Task, field_of}
use Rattle.paris_edits.specs.Rows.{is_settled, is_waiting}
use Rattle.paris_events.specs.State.{Row, State, IdsApart, row_ids, work_of, start_world, row_plan, with_status, find_row}
use Rattle.paris_events.specs.Show.{now, origin_at}
use Rattle.paris_events.specs.Orders.{IsIdle, is_firm, is_ready, next_ready, inputs_now, order_of, taken}
use Rattle.paris_events.specs.Results.{verdict_at, verdict_on, verdict_of, brought_on}
use Rattle.paris_events.specs.Settling.{run_row, brought_back, after_run}
use Rattle.paris_edits.specs.declared.rows.Status.{Status}
use Rattle.paris_edits.specs.declared.rows.Status.TheVariants.{Waiting, Out, Settled}
use Rattle.paris_edits.specs.declared.verdicts.Verdict.TheVariants.{Kept}
use Rattle.paris_events.proofs.Finds.{find_here, eqb_apart}
use Rattle.paris_events.specs.CutOff.{cut_off}
use Rattle.paris_events.proofs.Tests.{and_first, and_second, or_first, or_second}
use Rattle.paris_instr.proofs.ReflexivePlans.{plan_same}

abbrev pub are_settled : List Row → Bool
are_settled rs = list_all (λ (r : Row). is_settled r.status) rs

-- the first unsettled row stands at this place
pub record IsFirst (rs : List Row) (k : ℕ) (r : Row) : Type 0 where
  pub here : slice_get rs k ≡ Some r
  pub unsettled : is_settled r.status ≡ false
  pub before : are_settled (take k rs) ≡ true

abbrev pub SomeFirst : List Row → Type 0
SomeFirst rs = (k : ℕ) × (r : Row) × IsFirst rs k r

pub first_of : (rs : List Row) → (are_settled rs ≡ true) ⊎ SomeFirst rs
first_of [] = inl refl
first_of (r ∷ rs) = by_status (first_of rs) (is_settled r.status) refl
  where
    further : (rest : (are_settled rs ≡ true) ⊎ SomeFirst rs) → is_settled r.status ≡ true → (are_settled (r ∷ rs) ≡ true) ⊎ SomeFirst (r ∷ rs)
    further (inl e) t = inl (rw t e)
    further (inr f) t = inr (suc f.0, f.1, record { here = f.2.here; unsettled = f.2.unsettled; before = rw t f.2.before })

    by_status : (rest : (are_settled rs ≡ true) ⊎ SomeFirst rs) → (b : Bool) → is_settled r.status ≡ b → (are_settled (r ∷ rs) ≡ true) ⊎ SomeFirst (r ∷ rs)
    by_status rest true t = further rest t
    by_status rest false t = inr (zero, r, record { here = refl; unsettled = t; before = refl })

settled_waits_not : (s : Status) → is_settled s ≡ true → is_waiting s ≡ false
settled_waits_not Waiting h = absurd (let x : false ≡ true = h in cc)
settled_waits_not Out h = refl
settled_waits_not Settled h = refl

-- no settled row is ready
pub none_ready : (test : ℕ × Row → Bool) (rs : List Row) (n : ℕ) → are_settled rs ≡ true → find (λ e. is_waiting e.1.status && test e) (enumerate_from n rs) ≡ None
none_ready test [] n h = refl
none_ready test (r ∷ rs) n h = rw (settled_waits_not r.status (and_first (is_settled r.status) (are_settled rs) h)) (none_ready test rs (n + 1) (and_second (is_settled r.status) (are_settled rs) h))

-- among settled rows every origin is firm
firm_settled : (rs : List Row) (k : Key) → are_settled rs ≡ true → is_firm (origin row_plan k rs) ≡ true
firm_settled [] k h = refl
firm_settled (r ∷ rs) k h = by_rest (origin row_plan k rs) (has_key (writes r.plan) k) (firm_settled rs k (and_second (is_settled r.status) (are_settled rs) h))
  where
    by_rest : (o : Option Row) (b : Bool) → is_firm o ≡ true → is_firm (option_or o (cond b (Some r) None)) ≡ true
    by_rest None true t = and_first (is_settled r.status) (are_settled rs) h
    by_rest None false t = refl
    by_rest (Some x) b t = t

all_pass : (test : Key → Bool) → ((k : Key) → test k ≡ true) → (ks : List Key) → list_all test ks ≡ true
all_pass test h [] = refl
all_pass test h (k ∷ ks) = rw (h k) (all_pass test h ks)

pub waits_at : (rs : List Row) (k : ℕ) (r : Row) → IsIdle rs → slice_get rs k ≡ Some r → is_settled r.status ≡ false → is_waiting r.status ≡ true
waits_at [] k r i h u = absurd (cc)
waits_at (x ∷ rs) zero r i h u = let same : x ≡ r = cc in subst (λ (y : Row). is_settled y.status ≡ false → is_waiting y.status ≡ true) same i.0 u
waits_at (x ∷ rs) (suc k) r i h u = waits_at rs k r i.1 h u

-- the first unsettled row is the first ready one
pub next_first : (s : State) (k : ℕ) (r : Row) → IsIdle s.rows → IsFirst s.rows k r → next_ready s ≡ Some (k, r)
next_first s k r idle f =
    find_here (λ e. is_ready s e.0 e.1) s.rows 0 k k r (omega arith)
    (none_ready (λ e. list_all (λ j. is_firm (origin row_plan j (take e.0 s.rows))) (reads e.1.plan)) (take k s.rows) 0 f.before) f.here
    (ap₂ (λ a b. a && b) (waits_at s.rows k r idle f.here f.unsettled) (all_pass (λ j. is_firm (origin row_plan j (take k s.rows))) (λ j. firm_settled (take k s.rows) j f.before) (reads r.plan)))

-- and there is none where all rows are settled
pub next_none : (s : State) → are_settled s.rows ≡ true → next_ready s ≡ None
next_none s h = none_ready (λ e. list_all (λ j. is_firm (origin row_plan j (take e.0 s.rows))) (reads e.1.plan)) s.rows 0 h

apart_at : (i : ℕ) (rs : List Row) (k : ℕ) (r : Row) → list_any (λ j. eqb j i) (row_ids rs) ≡ false → slice_get rs k ≡ Some r → eqb r.id.0 i ≡ false
apart_at i [] k r h x = absurd (cc)
apart_at i (y ∷ rs) zero r h x = let same : y ≡ r = cc in subst (λ (z : Row). eqb z.id.0 i ≡ false) same (or_first (eqb y.id.0 i) (list_any (λ j. eqb j i) (row_ids rs)) h)
apart_at i (y ∷ rs) (suc k) r h x = apart_at i rs k r (or_second (eqb y.id.0 i) (list_any (λ j. eqb j i) (row_ids rs)) h) x

-- a row is found by its id, whatever its status
pub find_put : (rs : List Row) (n k m : ℕ) (r x : Row) → m ≡ n + k → x.id ≡ r.id → slice_get rs k ≡ Some r → IdsApart (row_ids rs) → find (λ e. eqb e.1.id.0 r.id.0) (enumerate_from n (set rs k x)) ≡ Some (m, x)
find_put [] n k m r x e id at apart = absurd (cc)
find_put (y ∷ rs) n zero m r x e id at apart =
    let place : n ≡ m = omega arith in
    rw (eq-eqb x.id.0 r.id.0 (ap (λ (i : RowId). i.0) id)) (ap (λ i. Some (i, x)) place)
find_put (y ∷ rs) n (suc k) m r x e id at apart =
    let other : eqb y.id.0 r.id.0 ≡ false = eqb_apart y.id.0 r.id.0 (λ same. let z : true ≡ false = sym (eq-eqb r.id.0 y.id.0 (sym same)) ∙ apart_at y.id.0 rs k r apart.0 at in cc) in
    rw other (find_put rs (n + 1) k m r x (omega arith) id at apart.1)

same_value : (x : FieldNumbers) → field_eq x x ≡ true
same_value x = ap₂ (λ a b. a && b) (eq-eqb x.width x.width refl) ((bytes_eq-Decides x.numbers x.numbers).1 refl)

same_values : (xs : List FieldNumbers) → pointwise field_eq xs xs ≡ true
same_values [] = refl
same_values (x ∷ xs) = ap₂ (λ a b. a && b) (same_value x) (same_values xs)

abbrev out_row : Row → Row
out_row r = record r { status = Out }

-- where all rows before a row are settled, the origins of what it reads are
pub firm_before : (s : State) (k : ℕ) (r : Row) → are_settled (take k s.rows) ≡ true → list_all (λ j. is_firm (origin_at s k j)) (reads r.plan) ≡ true
firm_before s k r before = all_pass (λ j. is_firm (origin row_plan j (take k s.rows))) (λ j. firm_settled (take k s.rows) j before) (reads r.plan)

-- the order that an unsettled row would give is kept, where the origins of what it reads are settled
present_kept : (s : State) (k : ℕ) (r : Row) → is_settled r.status ≡ false → list_all (λ j. is_firm (origin_at s k j)) (reads r.plan) ≡ true → verdict_at s (k, r) (order_of s (k, r)) ≡ Kept
present_kept s k r unsettled firm =
    let values : pointwise field_eq (inputs_now s k r.plan) (inputs_now s k r.plan) ≡ true = same_values (inputs_now s k r.plan) in
    rw (eq-eqb r.edition.0 r.edition.0 refl, unsettled, plan_same r.plan, firm, values) refl

-- and so is its order where it is out
own_kept : (s : State) (k : ℕ) (r : Row) → list_all (λ j. is_firm (origin_at s k j)) (reads r.plan) ≡ true → verdict_at (with_status s (k, r) Out) (k, out_row r) (order_of s (k, r)) ≡ Kept
own_kept s k r firm =
    let u : State = with_status s (k, r) Out in
    let front : take k u.rows ≡ take k s.rows = take-set s.rows k (out_row r) in
    ap (λ (xs : List Row). verdict_at u (k, out_row r) (record { id = r.id; edition = r.edition; plan = r.plan; inputs = map (λ j. field_of r.plan j (run (start_world s.inputs) (map row_plan xs) j)) (reads r.plan) })) (sym front)
    ∙ present_kept u k (out_row r) refl (ap (λ (xs : List Row). list_all (λ j. is_firm (origin row_plan j xs)) (reads r.plan)) front ∙ firm)

-- a take and the bring of its own order keep the present result of the row that was ready
pub ready_run_is : (s : State) (k : ℕ) (r : Row) → IdsApart (row_ids s.rows) → slice_get s.rows k ≡ Some r → list_all (λ j. is_firm (origin_at s k j)) (reads r.plan) ≡ true → next_ready s ≡ Some (k, r) → after_run s ≡ cut_off (record s { rows = set s.rows k (run_row (now s k) r) })
ready_run_is s k r apart here firm next =
    let u : State = with_status s (k, r) Out in
    let t : Task = order_of s (k, r) in
    let found : find_row u t.id ≡ Some (k, out_row r) = find_put s.rows 0 k k r (out_row r) (omega arith) refl here apart in
    let kept : verdict_of u t ≡ Kept = ap (λ o. verdict_on u o t) found ∙ own_kept s k r firm in
    ap (λ o. brought_back (taken s o) (option_map (order_of s) o)) next
    ∙ ap₂ (λ v o. brought_on u v o (work_of t)) kept found
    ∙ ap (λ (xs : List Row). cut_off (record s { rows = xs })) (set-set s.rows k (out_row r) (run_row (now s k) r))

-- that is the first unsettled row, where none is out
pub run_is : (s : State) (k : ℕ) (r : Row) → IsIdle s.rows → IdsApart (row_ids s.rows) → IsFirst s.rows k r → after_run s ≡ cut_off (record s { rows = set s.rows k (run_row (now s k) r) })
run_is s k r idle apart f = ready_run_is s k r apart f.here (firm_before s k r f.before) (next_first s k r idle f)
