-- Planes that were moved, and cut where a segment began.
use Rattle.std.proofs.Common.{◌≡◌, ℕ, suc, ◌+◌, ◌*◌, ◌<◌, Bool, false, cond, List, [], ◌∷◌, length, get_or, set, arith, ap, ◌∙◌, sym, refl, subst, inl, inr}
use Rattle.std.specs.Simd.Lanes.{zip2}
use Rattle.std.proofs.lemmas.Bool.{cases_eq}
use Rattle.std.proofs.lemmas.Grind.{get_or-set_at}
use Rattle.std.proofs.lemmas.List.{get_or-set_other}
use Rattle.std.proofs.lemmas.Simd.{get_or-zip2, length-zip2}
use Rattle.paris_model.specs.Store.{bit}
use Rattle.paris_field.specs.Numbers.{bit_in, number_at, plane_at}

abbrev pub without : Bool → Bool → Bool
without a b = cond b false a

pub without_at : (n v : ℕ) (xs ys zs : List Bool) → length xs ≡ n → length ys ≡ n → zs ≡ zip2 without xs ys → v < n → get_or zs v false ≡ without (get_or xs v false) (get_or ys v false)
without_at n v xs ys zs nx ny e h = ap (λ l. get_or l v false) e ∙ get_or-zip2 without xs ys v false false false (omega arith) (omega arith)

pub without_long : (n : ℕ) (xs ys zs : List Bool) → length xs ≡ n → length ys ≡ n → zs ≡ zip2 without xs ys → length zs ≡ n
without_long n xs ys zs nx ny e = ap length e ∙ length-zip2 without xs ys (nx ∙ sym ny) ∙ nx

-- what holds of each plane below k, and of the one that is written at k
pub each_written : (P : ℕ → List Bool → Type 0) (ps : List (List Bool)) (k : ℕ) (x : List Bool) → k < length ps → ((j : ℕ) → j < k → P j (plane_at ps j)) → P k x → (j : ℕ) → j < k + 1 → P j (plane_at (set ps k x) j)
each_written P ps k x h before here j below =
    elim (cases_eq j k) [
      | inl e ↦
          let at : plane_at (set ps k x) j ≡ x = get_or-set_at ps k j x [] e h in
          let first : P k (plane_at (set ps k x) j) = subst (P k) (sym at) here in
          subst (λ i. P i (plane_at (set ps k x) j)) (sym e) first
      | inr e ↦ subst (P j) (sym (get_or-set_other ps k j x [] e)) (before j (omega arith))
    ]

-- numbers by their planes
pub same_number : (ps qs : List (List Bool)) (v u : ℕ) → length ps ≡ length qs → ((j : ℕ) → j < length ps → get_or (plane_at ps j) v false ≡ get_or (plane_at qs j) u false) → number_at ps v ≡ number_at qs u
unfolding number_at
same_number [] [] v u e each = refl
same_number [] (q ∷ qs) v u e each = absurd (omega (arith, e))
same_number (p ∷ ps) [] v u e each = absurd (omega (arith, e))
same_number (p ∷ ps) (q ∷ qs) v u e each =
    let first : bit_in p v ≡ bit_in q u = ap bit (each 0 (omega arith)) in
    let rest : number_at ps v ≡ number_at qs u = same_number ps qs v u (omega (arith, e)) (λ j h. each (suc j) (omega (arith, h))) in
    ap (λ t. t + 2 * number_at ps v) first ∙ ap (λ t. bit_in q u + 2 * t) rest

pub none_number : (ps : List (List Bool)) (v : ℕ) → ((j : ℕ) → j < length ps → get_or (plane_at ps j) v false ≡ false) → number_at ps v ≡ 0
unfolding number_at
none_number [] v each = refl
none_number (p ∷ ps) v each =
    let first : bit_in p v ≡ 0 = ap bit (each 0 (omega arith)) in
    let rest : number_at ps v ≡ 0 = none_number ps v (λ j h. each (suc j) (omega (arith, h))) in
    omega (arith, first, rest)

-- numbers that count where a mask is 1
