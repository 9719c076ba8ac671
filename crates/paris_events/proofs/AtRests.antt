-- One pass is enough, and nothing but an edit or a kept result can enable a cut-off.
use Rattle.std.proofs.Common.{◌≡◌, List, [], ◌∷◌, Bool, true, false, cond, refl, ap, map}
use Rattle.std.proofs.Math.Path.{ap₂, fun_ext}
use Rattle.paris_names.specs.declared.keys.Key.{Key}
use Rattle.paris_names.specs.declared.ids.Edition.{Edition}
use Rattle.paris_model.specs.Frame.{World}
use Rattle.paris_model.specs.Instructions.{one}
use Rattle.paris_edits.specs.Rows.{is_settled}
use Rattle.paris_events.specs.State.{Row}
use Rattle.paris_events.specs.Settling.{settled_row}
use Rattle.paris_events.proofs.Passes.{is_cut_in, cut_row, cut, firm_after, Rests}

-- a row that was cut off is settled_row, so it is not cut off again; one that was not stays so
row_rests : (w : World) (h : Key → Bool) (r : Row) → is_cut_in w h (cut_row w h r) ≡ false
row_rests w h r = by_test (is_cut_in w h r) refl
  where
    by_test : (b : Bool) → is_cut_in w h r ≡ b → is_cut_in w h (cond b (settled_row r) r) ≡ false
    by_test true t = refl
    by_test false t = t

pub plan_stays : (w : World) (h : Key → Bool) (r : Row) → (cut_row w h r).plan ≡ r.plan
plan_stays w h r = by_test (is_cut_in w h r)
  where
    by_test : (b : Bool) → (cond b (settled_row r) r).plan ≡ r.plan
    by_test true = refl
    by_test false = refl

-- after one pass no row can be cut off
pub cut_rests : (w : World) (h : Key → Bool) (rs : List Row) → Rests w h (cut w h rs)
cut_rests w h [] = tt
cut_rests w h (r ∷ rs) = (row_rests w h r, rw (plan_stays w h r) (cut_rests (one r.plan w) (firm_after h (cut_row w h r)) rs))

-- where no row can be cut off, a pass changes nothing
pub rest_stays : (w : World) (h : Key → Bool) (rs : List Row) → Rests w h rs → cut w h rs ≡ rs
rest_stays w h [] s = refl
rest_stays w h (r ∷ rs) s = by_test (is_cut_in w h r) s.0 (rest_stays (one r.plan w) (firm_after h r) rs s.1)
  where
    by_test : (b : Bool) → b ≡ false → cut (one r.plan w) (firm_after h r) rs ≡ rs → (cond b (settled_row r) r ∷ cut (one r.plan w) (firm_after h (cond b (settled_row r) r)) rs) ≡ r ∷ rs
    by_test true t rest = absurd (let x : true ≡ false = t in cc)
    by_test false t rest = ap (λ xs. r ∷ xs) rest

pub cut_twice : (w : World) (h : Key → Bool) (rs : List Row) → cut w h (cut w h rs) ≡ cut w h rs
cut_twice w h rs = rest_stays w h (cut w h rs) (cut_rests w h rs)

-- editions stay
pub editions_stay : (w : World) (h : Key → Bool) (rs : List Row) → map (λ (r : Row). r.edition) (cut w h rs) ≡ map (λ (r : Row). r.edition) rs
editions_stay w h [] = refl
editions_stay w h (r ∷ rs) = ap₂ (λ (e : Edition) es. e ∷ es) (by_test (is_cut_in w h r)) (editions_stay (one r.plan w) (firm_after h (cut_row w h r)) rs)
  where
    by_test : (b : Bool) → (cond b (settled_row r) r).edition ≡ r.edition
    by_test true = refl
    by_test false = refl

-- ---- take and release

-- rows that differ in which unsettled ones are out
abbrev pub Alike : List Row → List Row → Type 0
Alike [] [] = Unit {0}
Alike [] (s ∷ ss) = ⊥
Alike (r ∷ rs) [] = ⊥
Alike (r ∷ rs) (s ∷ ss) = (s.plan ≡ r.plan) × (s.last ≡ r.last) × (is_settled s.status ≡ is_settled r.status) × Alike rs ss

firm_alike : (h : Key → Bool) (r s : Row) → s.plan ≡ r.plan → is_settled s.status ≡ is_settled r.status → firm_after h s ≡ firm_after h r
unfolding firm_after
firm_alike h r s p t = fun_ext (λ k. rw (p, t) refl)

-- a take, which sets a row out, and a release, which lets rows wait, enable no cut-off
pub rest_alike : (w : World) (h : Key → Bool) (rs ss : List Row) → Alike rs ss → Rests w h rs → Rests w h ss
rest_alike w h [] [] a s = tt
rest_alike w h [] (y ∷ ys) a s = absurd a
rest_alike w h (r ∷ rs) [] a s = absurd a
rest_alike w h (r ∷ rs) (y ∷ ys) a s =
    let p : y.plan ≡ r.plan = a.0 in
    let l : y.last ≡ r.last = a.1 in
    let t : is_settled y.status ≡ is_settled r.status = a.2 in
    (rw (p, l, t) s.0, rw (firm_alike h r y p t, p) (rest_alike (one r.plan w) (firm_after h r) rs ys a.3 s.1))
