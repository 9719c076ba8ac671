-- Rows in place of others with the same plans, settled where those were: origins that are settled stay so.
use Rattle.std.proofs.Common.{◌≡◌, ℕ, ◌⊎◌, inl, inr, List, [], ◌∷◌, Bool, true, false, cond, Option, Some, None, refl, sym, ap, subst, take, zero, suc, set, slice_get}
use Rattle.std.specs.Option.{option_or}
use Rattle.std.specs.List.{list_all}
use Rattle.paris_names.specs.declared.keys.Key.{Key}
use Rattle.paris_names.specs.Keys.{has_key}
use Rattle.paris_model.specs.Instructions.{Plan, writes}
use Rattle.paris_model.specs.Recipe.{origin}
use Rattle.paris_edits.specs.Rows.{is_settled}
use Rattle.paris_events.specs.State.{Row, row_plan}
use Rattle.paris_events.specs.Orders.{is_firm}
use Rattle.paris_events.proofs.Tests.{all_more}

-- a row in place of one with the same plan, settled where that was
abbrev pub Firmer : Row → Row → Type 0
Firmer r y = (y.plan ≡ r.plan) × (is_settled r.status ≡ true → is_settled y.status ≡ true)

abbrev pub More : List Row → List Row → Type 0
More [] [] = Unit {0}
More [] (y ∷ ys) = ⊥
More (r ∷ rs) [] = ⊥
More (r ∷ rs) (y ∷ ys) = Firmer r y × More rs ys

abbrev FirmerOrigin : Option Row → Option Row → Type 0
FirmerOrigin None None = Unit {0}
FirmerOrigin None (Some y) = ⊥
FirmerOrigin (Some r) None = ⊥
FirmerOrigin (Some r) (Some y) = Firmer r y

pub more_same : (rs : List Row) → More rs rs
more_same [] = tt
more_same (r ∷ rs) = ((refl, λ h. h), more_same rs)

pub more_take : (k : ℕ) (rs ys : List Row) → More rs ys → More (take k rs) (take k ys)
more_take zero [] [] m = tt
more_take zero [] (y ∷ ys) m = absurd m
more_take zero (r ∷ rs) [] m = absurd m
more_take zero (r ∷ rs) (y ∷ ys) m = tt
more_take (suc k) [] [] m = tt
more_take (suc k) [] (y ∷ ys) m = absurd m
more_take (suc k) (r ∷ rs) [] m = absurd m
more_take (suc k) (r ∷ rs) (y ∷ ys) m = (m.0, more_take k rs ys m.1)

pub more_set : (rs : List Row) (k : ℕ) (r y : Row) → slice_get rs k ≡ Some r → Firmer r y → More rs (set rs k y)
more_set [] k r y at f = absurd (cc)
more_set (x ∷ rs) zero r y at f = let same : x ≡ r = cc in (subst (λ (z : Row). Firmer z y) (sym same) f, more_same rs)
more_set (x ∷ rs) (suc k) r y at f = ((refl, λ h. h), more_set rs k r y at f)

pub origin_more : (j : Key) (rs ys : List Row) → More rs ys → FirmerOrigin (origin row_plan j rs) (origin row_plan j ys)
origin_more j [] [] m = tt
origin_more j [] (y ∷ ys) m = absurd m
origin_more j (r ∷ rs) [] m = absurd m
origin_more j (r ∷ rs) (y ∷ ys) m =
    subst (λ (p : Plan). FirmerOrigin (option_or (origin row_plan j rs) (cond (has_key (writes r.plan) j) (Some r) None)) (option_or (origin row_plan j ys) (cond (has_key (writes p) j) (Some y) None)))
    (sym m.0.0)
    (by_rest (origin row_plan j rs) (origin row_plan j ys) (has_key (writes r.plan) j) (origin_more j rs ys m.1))
  where
    by_rest : (o p : Option Row) (b : Bool) → FirmerOrigin o p → FirmerOrigin (option_or o (cond b (Some r) None)) (option_or p (cond b (Some y) None))
    by_rest None None true f = m.0
    by_rest None None false f = tt
    by_rest None (Some x) b f = absurd f
    by_rest (Some x) None b f = absurd f
    by_rest (Some x) (Some z) b f = f

pub firm_more : (o p : Option Row) → FirmerOrigin o p → is_firm o ≡ true → is_firm p ≡ true
firm_more None None f h = refl
firm_more None (Some y) f h = absurd f
firm_more (Some r) None f h = absurd f
firm_more (Some r) (Some y) f h = f.1 h

pub all_firm_more : (k : ℕ) (rs ys : List Row) (ks : List Key) → More rs ys → list_all (λ j. is_firm (origin row_plan j (take k rs))) ks ≡ true → list_all (λ j. is_firm (origin row_plan j (take k ys))) ks ≡ true
all_firm_more k rs ys ks m h =
    all_more (λ j. is_firm (origin row_plan j (take k rs))) (λ j. is_firm (origin row_plan j (take k ys)))
    (λ j. firm_more (origin row_plan j (take k rs)) (origin row_plan j (take k ys)) (origin_more j (take k rs) (take k ys) (more_take k rs ys m)))
    ks h

-- what stands at a place once another row was put
pub set_cases : (rs : List Row) (k : ℕ) (y : Row) (p : ℕ) (q : Row) → slice_get (set rs k y) p ≡ Some q → ((p ≡ k) × (q ≡ y)) ⊎ (slice_get rs p ≡ Some q)
set_cases [] k y p q at = inr at
set_cases (x ∷ rs) zero y zero q at = inl (refl, (let same : q ≡ y = cc in same))
set_cases (x ∷ rs) zero y (suc p) q at = inr at
set_cases (x ∷ rs) (suc k) y zero q at = inr at
set_cases (x ∷ rs) (suc k) y (suc p) q at = elim (set_cases rs k y p q at) [ inl e ↦ inl (ap suc e.0, e.1) | inr e ↦ inr e ]
