-- How many orders settling runs: a number of the state, the same in whatever order results come.
use Rattle.std.proofs.Common.{◌≡◌, ℕ, ◌+◌, ◌≤◌, List, [], ◌∷◌, Bool, true, false, cond, refl, sym, ap, arith, zero, suc, set, slice_get}
use Rattle.std.specs.Prelude.{◌&&◌, ◌||◌, not, Some}
use Rattle.std.specs.List.{list_all}
use Rattle.paris_names.specs.declared.keys.Key.{Key}
use Rattle.paris_names.specs.Keys.{has_key}
use Rattle.paris_model.specs.Frame.{World}
use Rattle.paris_model.specs.Instructions.{reads, writes, one}
use Rattle.paris_edits.specs.Rows.{is_settled}
use Rattle.paris_events.specs.State.{Row}
use Rattle.paris_events.specs.Settling.{is_same, settled_row, is_due, due_in, run_row, settled_due, settled_in, unsettled_rows}
use Rattle.paris_events.proofs.Passes.{is_cut_in, cut_row, cut, firm_after, Rests}
use Rattle.paris_events.proofs.Passes.{world_at}
use Rattle.paris_events.proofs.AtRests.{plan_stays}

-- ---- a cut-off leaves what is due, and where all ends

-- a row that is cut off wasn't due, and isn't
not_due : (a b c : Bool) → (not a && (b && c)) ≡ true → (a || c) ≡ true
not_due true b c h = absurd (let x : false ≡ true = h in cc)
not_due false true c h = h
not_due false false c h = absurd (let x : false ≡ true = h in cc)

due_row : (w : World) (h : Key → Bool) (r : Row) → is_due w (cut_row w h r) ≡ is_due w r
due_row w h r = by_test (is_cut_in w h r) refl
  where
    by_test : (b : Bool) → is_cut_in w h r ≡ b → is_due w (cond b (settled_row r) r) ≡ is_due w r
    by_test true t = sym (ap not (not_due (is_settled r.status) (list_all h (reads r.plan)) (is_same w r) t))
    by_test false t = refl

pub due_cut : (w : World) (h : Key → Bool) (rs : List Row) → due_in w (cut w h rs) ≡ due_in w rs
due_cut w h [] = refl
due_cut w h (r ∷ rs) = rw (due_row w h r, plan_stays w h r) (ap (λ n. cond (is_due w r) 1 0 + n) (due_cut (one r.plan w) (firm_after h (cut_row w h r)) rs))

settled_row-cut : (w : World) (h : Key → Bool) (r : Row) → settled_due w (cut_row w h r) ≡ settled_due w r
settled_row-cut w h r = by_test (is_cut_in w h r) refl
  where
    by_test : (b : Bool) → is_cut_in w h r ≡ b → settled_due w (cond b (settled_row r) r) ≡ settled_due w r
    by_test true t = sym (ap (λ b. cond b (run_row w r) (settled_row r)) (ap not (not_due (is_settled r.status) (list_all h (reads r.plan)) (is_same w r) t)))
    by_test false t = refl

pub settled_in-cut : (w : World) (h : Key → Bool) (rs : List Row) → settled_in w (cut w h rs) ≡ settled_in w rs
settled_in-cut w h [] = refl
settled_in-cut w h (r ∷ rs) = rw (settled_row-cut w h r, plan_stays w h r) (ap (λ xs. settled_due w r ∷ xs) (settled_in-cut (one r.plan w) (firm_after h (cut_row w h r)) rs))

-- ---- a kept result takes one from what is due

pub due_kept : (w : World) (rs : List Row) (k : ℕ) (r : Row) → slice_get rs k ≡ Some r → is_due (world_at w rs k) r ≡ true → due_in w rs ≡ suc (due_in w (set rs k (run_row (world_at w rs k) r)))
due_kept w [] k r at d = absurd (cc)
due_kept w (x ∷ rs) zero r at d = let same : x ≡ r = cc in rw (same, d) (omega (arith))
due_kept w (x ∷ rs) (suc k) r at d =
    let rest : due_in (one x.plan w) rs ≡ suc (due_in (one x.plan w) (set rs k (run_row (world_at (one x.plan w) rs k) r))) = due_kept (one x.plan w) rs k r at d in
    let here : ℕ = cond (is_due w x) 1 0 in
    rw rest (omega (arith))

pub settled_in-kept : (w : World) (rs : List Row) (k : ℕ) (r : Row) → slice_get rs k ≡ Some r → is_due (world_at w rs k) r ≡ true → settled_in w (set rs k (run_row (world_at w rs k) r)) ≡ settled_in w rs
settled_in-kept w [] k r at d = absurd (cc)
settled_in-kept w (x ∷ rs) zero r at d = let same : x ≡ r = cc in rw (same, d) refl
settled_in-kept w (x ∷ rs) (suc k) r at d = ap (λ xs. settled_due w x ∷ xs) (settled_in-kept (one x.plan w) rs k r at d)

-- ---- at rest, a row that can be computed is due_in, and where nothing is due_in nothing is unsettled

pub ready_due : (w : World) (h : Key → Bool) (r : Row) → is_cut_in w h r ≡ false → is_settled r.status ≡ false → list_all h (reads r.plan) ≡ true → is_due w r ≡ true
ready_due w h r c u f = by_same (is_settled r.status) (list_all h (reads r.plan)) (is_same w r) c u f
  where
    by_same : (a b c : Bool) → (not a && (b && c)) ≡ false → a ≡ false → b ≡ true → not (a || c) ≡ true
    by_same true b c x u f = absurd (let y : true ≡ false = u in cc)
    by_same false false c x u f = absurd (let y : false ≡ true = f in cc)
    by_same false true true x u f = absurd (let y : true ≡ false = x in cc)
    by_same false true false x u f = refl

all_true : (h : Key → Bool) → ((k : Key) → h k ≡ true) → (ks : List Key) → list_all h ks ≡ true
all_true h t [] = refl
all_true h t (k ∷ ks) = rw (t k) (all_true h t ks)

firm_true : (h : Key → Bool) (r : Row) → ((k : Key) → h k ≡ true) → is_settled r.status ≡ true → (k : Key) → firm_after h r k ≡ true
unfolding firm_after
firm_true h r t s k = by_has (has_key (writes r.plan) k)
  where
    by_has : (b : Bool) → cond b (is_settled r.status) (h k) ≡ true
    by_has true = s
    by_has false = t k

pub none_due : (w : World) (h : Key → Bool) → ((k : Key) → h k ≡ true) → (rs : List Row) → Rests w h rs → due_in w rs ≡ 0 → unsettled_rows rs ≡ 0
none_due w h t [] s d = refl
none_due w h t (r ∷ rs) s d = by_status (is_settled r.status) refl (λ x. none_due (one r.plan w) (firm_after h r) (firm_true h r t x) rs s.1 (rest_zero (is_due w r) (due_in (one r.plan w) rs) d))
  where
    by_due : (b : Bool) (n : ℕ) → b ≡ true → cond b 1 0 + n ≡ 0 → ⊥
    by_due true n y z = absurd (omega (arith, z))
    by_due false n y z = absurd (let q : false ≡ true = y in cc)

    rest_zero : (b : Bool) (n : ℕ) → cond b 1 0 + n ≡ 0 → n ≡ 0
    rest_zero true n z = omega (arith, z)
    rest_zero false n z = omega (arith, z)

    by_status : (b : Bool) → is_settled r.status ≡ b → (is_settled r.status ≡ true → unsettled_rows rs ≡ 0) → cond b 0 1 + unsettled_rows rs ≡ 0
    by_status true x f = let rest : unsettled_rows rs ≡ 0 = f x in omega (arith, rest)
    by_status false x f = absurd (by_due (is_due w r) (due_in (one r.plan w) rs) (ready_due w h r s.0 x (all_true h t (reads r.plan))) d)

-- no more are due_in than are unsettled
pub due_few : (w : World) (rs : List Row) → due_in w rs ≤ unsettled_rows rs
due_few w [] = omega (arith)
due_few w (r ∷ rs) = by_tests (is_settled r.status) (is_same w r) (due_few (one r.plan w) rs)
  where
    by_tests : (a b : Bool) → due_in (one r.plan w) rs ≤ unsettled_rows rs → cond (not (a || b)) 1 0 + due_in (one r.plan w) rs ≤ cond a 0 1 + unsettled_rows rs
    by_tests true b h = omega (arith, h)
    by_tests false true h = omega (arith, h)
    by_tests false false h = omega (arith, h)
