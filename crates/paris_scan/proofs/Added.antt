-- Sums that are added, with their overflow.
use Rattle.std.proofs.Common.{◌≡◌, ℕ, zero, suc, ◌+◌, ◌*◌, ◌%◌, ◌^◌, ◌<◌, Bool, true, false, ◌||◌, List, [], ◌∷◌, ◌++◌, length, get_or, take, arith, ap, ◌∙◌, sym, refl, leb, mul-one, set, inl, inr, subst, replicate, map, cond}
use Rattle.std.specs.Prelude.{sum, All}
use Rattle.std.proofs.lemmas.List.Elements.{All-nil, All-cons}
use Rattle.paris_model.specs.Lines.{values_where}
use Rattle.paris_field.proofs.Places.{number_pushed}
use lib.Pow.{pow_pos}
use Rattle.std.proofs.Math.Nat.{add-mod, mod-lt, mod-eq_of_lt}
use Rattle.std.proofs.lemmas.Bool.{cases_lt}
use Rattle.std.proofs.lemmas.Bool.Decides.{nat_tests}
use Rattle.std.proofs.lemmas.Simd.{get_or-zip2}
use Rattle.std.specs.Simd.Lanes.{zip2}
use Rattle.paris_model.specs.Store.{bit}
use Rattle.paris_field.specs.Numbers.{bit_in, number_at, plane_at}
use Rattle.paris_field.proofs.Numbers.{sum_mod, carry_is, zero_bit_in}
use Rattle.paris_scan.proofs.Tops.{low_lt, split_at}
use Rattle.paris_scan.specs.Sums.{sum_shown}
use Rattle.paris_scan.specs.Laws.{sum_append}

-- a number's low bits and the bit above them
pub parts : (p a b : ℕ) (x y : Bool) → a < p → b < p → a + p * bit x ≡ b + p * bit y → (a ≡ b) × (x ≡ y)
parts p a b true true ha hb e = (omega (arith, mul-one p), refl)
parts p a b false false ha hb e = (omega arith, refl)
parts p a b true false ha hb e = absurd (omega (arith, mul-one p, e))
parts p a b false true ha hb e = absurd (omega (arith, mul-one p, e))

or_true : (b : Bool) → (b || true) ≡ true
or_true true = refl
or_true false = refl

-- the overflow of a sum: one of the two overflows, or their low bits do
overflow_of : (p x y s : ℕ) (c : Bool) → 0 < p → s < p → s + p * bit c ≡ x % p + y % p → ((leb p y || leb p x) || c) ≡ leb p (x + y)
overflow_of p x y s c some hs e =
    elim (cases_lt x p) [
      | inl small_x ↦
          elim (cases_lt y p) [
            | inl small_y ↦
                let ex : x % p ≡ x = mod-eq_of_lt small_x in
                let ey : y % p ≡ y = mod-eq_of_lt small_y in
                let a : leb p x ≡ false = grind (arith, nat_tests) in
                let b : leb p y ≡ false = grind (arith, nat_tests) in
                ap (λ t. (leb p y || t) || c) a ∙ ap (λ t. (t || false) || c) b ∙ carry_is s p (x + y) c hs (omega arith) (omega arith)
            | inr big_y ↦
                let b : leb p y ≡ true = grind (arith, nat_tests) in
                let t : leb p (x + y) ≡ true = grind (arith, nat_tests) in
                ap (λ z. (z || leb p x) || c) b ∙ sym t
          ]
      | inr big_x ↦
          let a : leb p x ≡ true = grind (arith, nat_tests) in
          let t : leb p (x + y) ≡ true = grind (arith, nat_tests) in
          ap (λ z. (leb p y || z) || c) a ∙ ap (λ z. z || c) (or_true (leb p y)) ∙ sym t
    ]

-- what planes that show a sum hold
pub shown_parts : (L v x : ℕ) (ps : List (List Bool)) → length ps ≡ L + 1 → number_at ps v ≡ x % 2 ^ L + 2 ^ L * bit (leb (2 ^ L) x) → (number_at (take L ps) v ≡ x % 2 ^ L) × (get_or (plane_at ps L) v false ≡ leb (2 ^ L) x)
shown_parts L v x ps long e =
    parts (2 ^ L) (number_at (take L ps) v) (x % 2 ^ L) (get_or (plane_at ps L) v false) (leb (2 ^ L) x) (low_lt ps L v (omega arith)) (mod-lt x (pow_pos L)) (sym (split_at L v ps long) ∙ e)

-- x and above it b came to v from where its partner's planes show a list, and were added to what showed another
pub sums_joined : (L v x : ℕ) (b : Bool) (xs ys : List ℕ) (old new : List (List Bool)) (c : Bool) → length old ≡ L + 1 → length new ≡ L + 1 → x < 2 ^ L → x + 2 ^ L * bit b ≡ sum_shown L xs → number_at old v ≡ sum_shown L ys → number_at (take L new) v + 2 ^ L * bit c ≡ x + number_at (take L old) v → get_or (plane_at new L) v false ≡ ((get_or (plane_at old L) v false || b) || c) → number_at new v ≡ sum_shown L (xs ++ ys)
unfolding sum_shown
sums_joined L v x b xs ys old new c nl nn small ex ey exact top =
    let p : ℕ = 2 ^ L in
    let m : ℕ = sum xs in
    let y : ℕ = sum ys in
    let came = parts p x (m % p) b (leb p m) small (mod-lt m (pow_pos L)) ex in
    let there = shown_parts L v y old nl ey in
    let s : ℕ = number_at (take L new) v in
    let hs : s < p = low_lt new L v (omega (arith, nn)) in
    let sums : s + p * bit c ≡ m % p + y % p = exact ∙ ap (λ t. t + number_at (take L old) v) came.0 ∙ ap (λ t. m % p + t) there.0 in
    let low_is : s ≡ (m + y) % p = sum_mod s p (bit c) (m % p + y % p) hs sums ∙ sym (add-mod m y p) in
    let top_is : get_or (plane_at new L) v false ≡ leb p (m + y) =
    top ∙ ap (λ t. (t || b) || c) there.1 ∙ ap (λ t. (leb p y || t) || c) came.1
    ∙ overflow_of p m y s (c) (pow_pos L) hs sums in
    split_at L v new nn
    ∙ ap (λ t. t + p * bit_in (plane_at new L) v) low_is ∙ ap (λ t. (m + y) % p + p * bit t) top_is
    ∙ ap (λ t. t % p + p * bit (leb p t)) (sym (sum_append xs ys))

pub take_set : {X : Type 0} (k : ℕ) (x : X) (ps : List X) → take k (set ps k x) ≡ take k ps
take_set zero x ps = refl
take_set (suc k) x [] = refl
take_set (suc k) x (p ∷ ps) = ap (λ l. p ∷ l) (take_set k x ps)

pub or_both_at : (n v : ℕ) (x y old mid new : List Bool) → length old ≡ n → length x ≡ n → length y ≡ n → length mid ≡ n → mid ≡ zip2 (λ a b. a || b) old x → new ≡ zip2 (λ a b. a || b) mid y → v < n → get_or new v false ≡ ((get_or old v false || get_or x v false) || get_or y v false)
or_both_at n v x y old mid new lo lx ly lm em en h =
    ap (λ l. get_or l v false) en ∙ get_or-zip2 (λ a b. a || b) mid y v false false false (omega arith) (omega arith)
    ∙ ap (λ t. t || get_or y v false) (ap (λ l. get_or l v false) em ∙ get_or-zip2 (λ a b. a || b) old x v false false false (omega arith) (omega arith))

pub zero_on_top : (n v : ℕ) (ps qs : List (List Bool)) (z : List Bool) → z ≡ replicate n false → qs ≡ ps ++ z ∷ [] → number_at qs v ≡ number_at ps v
zero_on_top n v ps qs z e pushed =
    let none : bit_in z v ≡ 0 = ap (λ l. bit_in l v) e ∙ zero_bit_in n v in
    ap (λ l. number_at l v) pushed ∙ number_pushed ps z v ∙ (let f : number_at ps v + 2 ^ length ps * bit_in z v ≡ number_at ps v = omega (arith, ap (λ t. 2 ^ length ps * t) none) in f)

-- what one processor brings
pub map_cond : (b : Bool) (g : ℕ → ℕ) (v : ℕ) → map g (cond b (v ∷ []) []) ≡ cond b (g v ∷ []) []
map_cond true g v = refl
map_cond false g v = refl

values_one : (p : ℕ → Bool) (g : ℕ → ℕ) (v : ℕ) → values_where p g (v ∷ []) ≡ cond (p v) (g v ∷ []) []
values_one p g v = map_cond (p v) g v

all_one : (P : ℕ → Type 0) (b : Bool) (x : ℕ) → P x → All P (cond b (x ∷ []) [])
all_one P true x h = All-cons P x [] h (All-nil P)
all_one P false x h = All-nil P

pub own_fits : (p : ℕ → Bool) (g : ℕ → ℕ) (L v : ℕ) → g v < 2 ^ L → All (λ x. x < 2 ^ L) (values_where p g (v ∷ []))
own_fits p g L v h = subst (All (λ x. x < 2 ^ L)) (sym (values_one p g v)) (all_one (λ x. x < 2 ^ L) (p v) (g v) h)
