-- The pass of the definition, place by place, is the pass by recursion.
use Rattle.std.proofs.Common.{◌≡◌, ℕ, ◌<◌, ◌≤◌, List, [], ◌∷◌, ◌++◌, Bool, true, false, cond, refl, sym, ap, ◌∙◌, map, Option, Some, None, append_assoc, append-nil, arith, zero, suc, set, slice_get, take, drop, length}
use Rattle.std.proofs.Math.Path.{ap₂, fun_ext}
use Rattle.std.proofs.Math.Seq.{take-length, drop-length}
use Rattle.std.specs.Prelude.{◌&&◌, not}
use Rattle.std.specs.List.{list_all}
use Rattle.std.specs.Cmp.Lexicographic.{pointwise}
use Rattle.std.specs.Option.{option_or}
use Rattle.paris_names.specs.declared.keys.Key.{Key}
use Rattle.paris_names.specs.Keys.{has_key}
use Rattle.paris_model.specs.Frame.{World}
use Rattle.paris_model.specs.Instructions.{Plan, reads, writes, one}
use Rattle.paris_model.specs.Run.{run}
use Rattle.paris_model.specs.Recipe.{origin}
use Rattle.paris_edits.specs.Rows.{is_settled}
use Rattle.paris_edits.specs.declared.rows.Status.TheVariants.{Settled}
use Rattle.paris_instr.specs.PlanEq.{plan_eq}
use Rattle.paris_field.specs.Fields.{field_eq}
use Rattle.paris_events.specs.State.{Row, State, Work, start_world, row_plan, with_status}
use Rattle.paris_events.specs.Orders.{is_firm}
use Rattle.paris_events.specs.CutOff.{is_cut, is_last_present, cut_found, cut_at, cut_to, cut_off}
use Rattle.paris_events.specs.Settling.{is_last, work_in, settled_row}
use Rattle.paris_events.proofs.Passes.{is_cut_in, cut_row, cut, firm_after, from_start}
use Rattle.paris_events.proofs.AtRests.{plan_stays}

-- ---- which keys are firm

-- which keys are firm behind rows
abbrev pub firm_behind : (Key → Bool) → List Row → Key → Bool
firm_behind h [] = h
firm_behind h (r ∷ rs) = firm_behind (firm_after h r) rs

abbrev pub is_firm_or : Bool → Option Row → Bool
is_firm_or b None = b
is_firm_or b (Some r) = is_settled r.status

firm_is : (h : Key → Bool) (k : Key) (rs : List Row) → firm_behind h rs k ≡ is_firm_or (h k) (origin row_plan k rs)
unfolding firm_after
firm_is h k [] = refl
firm_is h k (r ∷ rs) = firm_is (firm_after h r) k rs ∙ by_both (origin row_plan k rs) (has_key (writes r.plan) k) refl
  where
    by_both : (o : Option Row) (b : Bool) → has_key (writes r.plan) k ≡ b → is_firm_or (firm_after h r k) o ≡ is_firm_or (h k) (option_or o (cond b (Some r) None))
    by_both (Some x) b t = refl
    by_both None true t = rw t refl
    by_both None false t = rw t refl

pub firm_start : (front : List Row) → (λ k. is_firm (origin row_plan k front)) ≡ firm_behind from_start front
firm_start front = fun_ext (λ k. by_origin (origin row_plan k front) ∙ sym (firm_is from_start k front))
  where
    by_origin : (o : Option Row) → is_firm o ≡ is_firm_or true o
    by_origin None = refl
    by_origin (Some r) = refl

pub firm_more : (h : Key → Bool) (front : List Row) (r : Row) → firm_behind h (front ++ r ∷ []) ≡ firm_after (firm_behind h front) r
firm_more h [] r = refl
firm_more h (x ∷ front) r = firm_more (firm_after h x) front r

pub run_more : (w : World) (front : List Row) (r : Row) → run w (map row_plan (front ++ r ∷ [])) ≡ one r.plan (run w (map row_plan front))
run_more w [] r = refl
run_more w (x ∷ front) r = run_more (one x.plan w) front r

-- ---- the test

firm_first : (a b c : Bool) → (a && (b && c)) ≡ (b && (a && c))
firm_first true true c = refl
firm_first true false c = refl
firm_first false true c = refl
firm_first false false c = refl

and_false : (b : Bool) → false ≡ (b && false)
and_false true = refl
and_false false = refl

-- whether a row behind these is cut off
abbrev pub is_cut_behind : World → List Row → Row → Bool
is_cut_behind w front r = is_cut_in (run w (map row_plan front)) (firm_behind from_start front) r

-- the definition's test, at a place of a state
pub test_is : (s : State) (place : ℕ) (r : Row) → is_cut s place r ≡ is_cut_behind (start_world s.inputs) (take place s.rows) r
test_is s place r = ap (λ b. not (is_settled r.status) && b) (by_last r.last)
  where
    by_last : (o : Option Work) → is_last_present s place r o ≡ (list_all (firm_behind from_start (take place s.rows)) (reads r.plan) && is_last o (work_in (run (start_world s.inputs) (map row_plan (take place s.rows))) r.plan))
    by_last None = and_false (list_all (firm_behind from_start (take place s.rows)) (reads r.plan))
    by_last (Some x) =
        let now : Work = work_in (run (start_world s.inputs) (map row_plan (take place s.rows))) r.plan in
        firm_first (plan_eq r.plan x.plan) (list_all (λ k. is_firm (origin row_plan k (take place s.rows))) (reads r.plan)) (pointwise field_eq now.inputs x.inputs)
        ∙ ap (λ (h : Key → Bool). list_all h (reads r.plan) && (plan_eq r.plan x.plan && pointwise field_eq now.inputs x.inputs)) (firm_start (take place s.rows))

-- ---- the pass, of rows

-- the rows in front, and those behind them after the pass
abbrev pub cut_behind : World → List Row → List Row → List Row
cut_behind w front [] = front
cut_behind w front (r ∷ rs) = cut_behind w (front ++ cut_row (run w (map row_plan front)) (firm_behind from_start front) r ∷ []) rs

behind_is : (w : World) (front rs : List Row) → cut_behind w front rs ≡ front ++ cut (run w (map row_plan front)) (firm_behind from_start front) rs
behind_is w front [] = sym (append-nil front)
behind_is w front (r ∷ rs) =
    let now : World = run w (map row_plan front) in
    let h : Key → Bool = firm_behind from_start front in
    let x : Row = cut_row now h r in
    behind_is w (front ++ x ∷ []) rs
    ∙ ap₂ (λ (v : World) (g : Key → Bool). (front ++ x ∷ []) ++ cut v g rs) (run_more w front x ∙ ap (λ (p : Plan). one p now) (plan_stays now h r)) (firm_more from_start front x)
    ∙ append_assoc front (x ∷ []) (cut (one r.plan now) (firm_after h x) rs)

-- ---- the pass, place by place

there : (rs : List Row) (n : ℕ) → n < length rs → (r : Row) × (slice_get rs n ≡ Some r)
there [] n h = absurd (omega (arith, h))
there (r ∷ rs) zero h = (r, refl)
there (r ∷ rs) (suc n) h = there rs n (omega (arith, h))

take_put : (rs : List Row) (n : ℕ) (r x : Row) → slice_get rs n ≡ Some r → take (suc n) (set rs n x) ≡ take n rs ++ x ∷ []
take_put [] n r x at = absurd (cc)
take_put (y ∷ rs) zero r x at = refl
take_put (y ∷ rs) (suc n) r x at = ap (λ ys. y ∷ ys) (take_put rs n r x at)

drop_put : (rs : List Row) (n : ℕ) (r x : Row) → slice_get rs n ≡ Some r → drop (suc n) (set rs n x) ≡ drop (suc n) rs
drop_put [] n r x at = absurd (cc)
drop_put (y ∷ rs) zero r x at = refl
drop_put (y ∷ rs) (suc n) r x at = drop_put rs n r x at

drop_here : (rs : List Row) (n : ℕ) (r : Row) → slice_get rs n ≡ Some r → drop n rs ≡ r ∷ drop (suc n) rs
drop_here [] n r at = absurd (cc)
drop_here (y ∷ rs) zero r at = let same : y ≡ r = cc in ap (λ z. z ∷ rs) same
drop_here (y ∷ rs) (suc n) r at = drop_here rs n r at

put_same : (rs : List Row) (n : ℕ) (r : Row) → slice_get rs n ≡ Some r → set rs n r ≡ rs
put_same [] n r at = absurd (cc)
put_same (y ∷ rs) zero r at = let same : y ≡ r = cc in ap (λ z. z ∷ rs) (sym same)
put_same (y ∷ rs) (suc n) r at = ap (λ ys. y ∷ ys) (put_same rs n r at)

length_put : (rs : List Row) (n : ℕ) (x : Row) → length (set rs n x) ≡ length rs
length_put [] n x = refl
length_put (y ∷ rs) zero x = refl
length_put (y ∷ rs) (suc n) x = ap suc (length_put rs n x)

-- one place, of rows
abbrev pub put_cut : World → List Row → ℕ → Option Row → List Row
put_cut w rs n None = rs
put_cut w rs n (Some r) = set rs n (cut_row (run w (map row_plan (take n rs))) (firm_behind from_start (take n rs)) r)

abbrev pub cut_places : World → ℕ → List Row → List Row
cut_places w zero rs = rs
cut_places w (suc n) rs = let now = cut_places w n rs in put_cut w now n (slice_get now n)

at_is : (s : State) (n : ℕ) (o : Option Row) → slice_get s.rows n ≡ o → cut_found s n o ≡ record s { rows = put_cut (start_world s.inputs) s.rows n o }
at_is s n None at = refl
at_is s n (Some r) at = ap (λ b. cond b (with_status s (n, r) Settled) s) (test_is s n r) ∙ by_test (is_cut_behind (start_world s.inputs) (take n s.rows) r)
  where
    by_test : (b : Bool) → cond b (with_status s (n, r) Settled) s ≡ record s { rows = set s.rows n (cond b (settled_row r) r) }
    by_test true = refl
    by_test false = ap (λ (xs : List Row). record s { rows = xs }) (sym (put_same s.rows n r at))

to_is : (n : ℕ) (s : State) → cut_to n s ≡ record s { rows = cut_places (start_world s.inputs) n s.rows }
to_is zero s = refl
to_is (suc n) s =
    let now : List Row = cut_places (start_world s.inputs) n s.rows in
    ap (λ (t : State). cut_at t n) (to_is n s) ∙ at_is (record s { rows = now }) n (slice_get now n) refl

put_length : (w : World) (rs : List Row) (n : ℕ) (o : Option Row) → length (put_cut w rs n o) ≡ length rs
put_length w rs n None = refl
put_length w rs n (Some r) = length_put rs n _

places_length : (w : World) (n : ℕ) (rs : List Row) → length (cut_places w n rs) ≡ length rs
places_length w zero rs = refl
places_length w (suc n) rs = put_length w (cut_places w n rs) n (slice_get (cut_places w n rs) n) ∙ places_length w n rs

-- what the places so far have left is as far as the pass has come
so_far : (w : World) (n : ℕ) (rs : List Row) → n ≤ length rs → cut_behind w (take n (cut_places w n rs)) (drop n (cut_places w n rs)) ≡ cut w from_start rs
so_far w zero rs h = behind_is w [] rs
so_far w (suc n) rs h =
    let now : List Row = cut_places w n rs in
    let many : length now ≡ length rs = places_length w n rs in
    let r = there now n (omega (arith, h, many)) in
    let x : Row = cut_row (run w (map row_plan (take n now))) (firm_behind from_start (take n now)) r.0 in
    ap (λ o. cut_behind w (take (suc n) (put_cut w now n o)) (drop (suc n) (put_cut w now n o))) r.1
    ∙ ap₂ (λ xs ys. cut_behind w xs ys) (take_put now n r.0 x r.1) (drop_put now n r.0 x r.1)
    ∙ sym (ap (cut_behind w (take n now)) (drop_here now n r.0 r.1))
    ∙ so_far w n rs (omega (arith, h))

places_are : (w : World) (rs : List Row) → cut_places w (length rs) rs ≡ cut w from_start rs
places_are w rs =
    let all : List Row = cut_places w (length rs) rs in
    let many : length all ≡ length rs = places_length w (length rs) rs in
    sym (take-length all)
    ∙ sym (ap₂ (λ xs ys. cut_behind w xs ys) (ap (λ n. take n all) (sym many)) (ap (λ n. drop n all) (sym many) ∙ drop-length all))
    ∙ so_far w (length rs) rs (omega (arith))

-- the definition's pass is the pass by recursion
pub cut_off_is : (s : State) → cut_off s ≡ record s { rows = cut (start_world s.inputs) from_start s.rows }
cut_off_is s = to_is (length s.rows) s ∙ ap (λ (xs : List Row). record s { rows = xs }) (places_are (start_world s.inputs) s.rows)
