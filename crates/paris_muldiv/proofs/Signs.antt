-- Products in two's complement, by absolute values.
use Rattle.std.proofs.Common.{◌≡◌, ◌≤◌, ℕ, zero, suc, ◌+◌, ◌-◌, ◌*◌, ◌%◌, ◌^◌, ◌<◌, ℤ, pos, negsuc, ◌*ℤ◌, Bool, true, false, cond, not, refl, arith, ◌∙◌, sym, ap, leb, ltb, inl, inr}
use Rattle.std.specs.Prelude.{unsigned_abs}
use mathlib.Core.Bool.{beq}
use Rattle.std.proofs.Math.IntN.{neg_ℤ}
use Rattle.std.proofs.Math.Nat.{mod-eq_of_lt, mod-mod, add-mod-mod, add-mod_left, zero-mod, add-mul-mod_self_left}
use Rattle.std.proofs.lemmas.Bool.{cases_lt}
use Rattle.std.proofs.lemmas.Bool.Decides.{nat_tests}
use Rattle.std.proofs.lemmas.Nat.{pow_pos, mod_below}
use Rattle.paris_model.specs.Store.{low, signed, low_signed, is_outside_signed}
use Rattle.paris_plane.specs.Bits.{differ}
use Rattle.paris_muldiv.proofs.Wholes.{low_of_whole, none_of_whole}

abbrev is_below_zero : ℤ → Bool
is_below_zero (pos n) = false
is_below_zero (negsuc n) = true

sign_by_test : (b : Bool) (x y : ℕ) → is_below_zero (cond b (pos x) (negsuc y)) ≡ cond b false true
sign_by_test true x y = refl
sign_by_test false x y = refl

turned : (h x : ℕ) → cond (ltb x h) false true ≡ leb h x
turned h x = grind (arith, nat_tests)

pub sign_is : (L x : ℕ) → is_below_zero (signed L x) ≡ leb (2 ^ (L - 1)) x
sign_is L x = sign_by_test (ltb x (2 ^ (L - 1))) x (2 ^ L - 1 - x) ∙ turned (2 ^ (L - 1)) x

-- the product of two numbers of one sign, and of two signs
pub product_alike : (z w : ℤ) → is_below_zero z ≡ is_below_zero w → z *ℤ w ≡ pos (unsigned_abs z * unsigned_abs w)
product_alike (pos a) (pos b) e = refl
product_alike (pos a) (negsuc b) e = grind (arith, e)
product_alike (negsuc a) (pos b) e = grind (arith, e)
product_alike (negsuc a) (negsuc b) e = refl

pub product_unlike : (z w : ℤ) → is_below_zero z ≡ cond (is_below_zero w) false true → z *ℤ w ≡ neg_ℤ (pos (unsigned_abs z * unsigned_abs w))
product_unlike (pos a) (pos b) e = grind (arith, e)
product_unlike (pos a) (negsuc b) e = refl
product_unlike (negsuc a) (pos b) e = refl
product_unlike (negsuc a) (negsuc b) e = grind (arith, e)

-- a number that comes to a multiple of m with another
opposite_rest : (m n q : ℕ) → 0 < m → (n + suc q) % m ≡ 0 → n % m ≡ m - 1 - q % m
opposite_rest m n q some none =
    let a : ℕ = n % m in
    let b : ℕ = q % m in
    let below_a : a < m = mod_below n m some in
    let below_b : b < m = mod_below q m some in
    let both : (suc a + b) % m ≡ 0 = add-mod-mod (suc a) q m ∙ ap (λ t. t % m) (omega arith) ∙ add-mod-mod (suc q) n m ∙ ap (λ t. t % m) (omega arith) ∙ none in
    elim (cases_lt (suc a + b) m) [
      | inl few ↦ absurd (omega (arith, both, mod-eq_of_lt few))
      | inr many ↦
          let over : ℕ = suc a + b - m in
          let less : over < m = omega arith in
          let is : over ≡ 0 = sym (mod-eq_of_lt less) ∙ sym (add-mod_left m over) ∙ ap (λ t. t % m) (omega arith) ∙ both in
          omega (arith, is, many, below_a, below_b)
    ]

pub opposite_low : (L n p : ℕ) → (n + p) % 2 ^ L ≡ 0 → low L n ≡ low L (low_signed L (neg_ℤ (pos p)))
opposite_low L n zero none =
    ap (λ t. t % 2 ^ L) (omega arith) ∙ none ∙ sym (ap (λ t. t % 2 ^ L) (zero-mod (2 ^ L)) ∙ zero-mod (2 ^ L))
opposite_low L n (suc q) none =
    let some : 0 < 2 ^ L = pow_pos L in
    let less : 2 ^ L - 1 - q % 2 ^ L < 2 ^ L = omega (arith, some) in
    opposite_rest (2 ^ L) n q some none ∙ sym (mod-eq_of_lt less)

pub outside_unlike : (L p : ℕ) → leb (2 ^ (L - 1) + 1) p ≡ is_outside_signed L (neg_ℤ (pos p))
outside_unlike L zero = grind (arith, nat_tests, pow_pos (L - 1))
outside_unlike L (suc q) = grind (arith, nat_tests)

-- what the low W bits of the absolute values' product say, and the whole of it
pub alike_value : (W L x y n high : ℕ) → L ≤ W → n < 2 ^ W → n + 2 ^ W * high ≡ unsigned_abs (signed L x) * unsigned_abs (signed L y) → leb (2 ^ (L - 1)) x ≡ leb (2 ^ (L - 1)) y → low L n ≡ low L (low_signed L (signed L x *ℤ signed L y))
alike_value W L x y n high narrow fits whole signs =
    let p : ℕ = unsigned_abs (signed L x) * unsigned_abs (signed L y) in
    low_of_whole W L n high p narrow fits whole ∙ sym (mod-mod p (2 ^ L))
    ∙ sym (ap (λ z. low L (low_signed L z)) (product_alike (signed L x) (signed L y) (sign_is L x ∙ signs ∙ sym (sign_is L y))))

pub alike_overflow : (L x y m : ℕ) (r : Bool) → m ≡ unsigned_abs (signed L x) * unsigned_abs (signed L y) → leb (2 ^ (L - 1)) x ≡ leb (2 ^ (L - 1)) y → r ≡ leb (2 ^ (L - 1)) m → r ≡ is_outside_signed L (signed L x *ℤ signed L y)
alike_overflow L x y m r whole signs is =
    is ∙ ap (leb (2 ^ (L - 1))) whole
    ∙ sym (ap (is_outside_signed L) (product_alike (signed L x) (signed L y) (sign_is L x ∙ signs ∙ sym (sign_is L y))))

pub unlike_signs : (L x y : ℕ) → leb (2 ^ (L - 1)) x ≡ cond (leb (2 ^ (L - 1)) y) false true → is_below_zero (signed L x) ≡ cond (is_below_zero (signed L y)) false true
unlike_signs L x y signs = sign_is L x ∙ signs ∙ sym (ap (λ b. cond b false true) (sign_is L y))

pub unlike_value : (W L x y n r high : ℕ) → L ≤ W → n + 2 ^ W * high ≡ unsigned_abs (signed L x) * unsigned_abs (signed L y) → leb (2 ^ (L - 1)) x ≡ cond (leb (2 ^ (L - 1)) y) false true → (r + n) % 2 ^ W ≡ 0 → low L r ≡ low L (low_signed L (signed L x *ℤ signed L y))
unlike_value W L x y n r high narrow whole signs none =
    let p : ℕ = unsigned_abs (signed L x) * unsigned_abs (signed L y) in
    let sum : (r + p) % 2 ^ W ≡ 0 = ap (λ t. t % 2 ^ W) (omega (arith, whole)) ∙ add-mul-mod_self_left (r + n) (2 ^ W) high ∙ none in
    opposite_low L r p (none_of_whole W L (r + p) narrow sum)
    ∙ sym (ap (λ z. low L (low_signed L z)) (product_unlike (signed L x) (signed L y) (unlike_signs L x y signs)))

pub unlike_overflow : (L x y m : ℕ) (r : Bool) → m ≡ unsigned_abs (signed L x) * unsigned_abs (signed L y) → leb (2 ^ (L - 1)) x ≡ cond (leb (2 ^ (L - 1)) y) false true → r ≡ leb (2 ^ (L - 1) + 1) m → r ≡ is_outside_signed L (signed L x *ℤ signed L y)
unlike_overflow L x y m r whole signs is =
    is ∙ ap (leb (2 ^ (L - 1) + 1)) whole ∙ outside_unlike L (unsigned_abs (signed L x) * unsigned_abs (signed L y))
    ∙ sym (ap (is_outside_signed L) (product_unlike (signed L x) (signed L y) (unlike_signs L x y signs)))

-- the test of two signs
pub alike_flags : (a b : Bool) → beq a b ≡ true → a ≡ b
alike_flags true true e = refl
alike_flags true false e = grind (arith, e)
alike_flags false true e = grind (arith, e)
alike_flags false false e = refl

pub unlike_flags : (a b : Bool) → beq a b ≡ false → a ≡ cond b false true
unlike_flags true true e = grind (arith, e)
unlike_flags true false e = refl
unlike_flags false true e = refl
unlike_flags false false e = grind (arith, e)

pub unlike_of : (a c : Bool) → true ≡ differ a c → a ≡ cond c false true
unlike_of true true e = grind (arith, e)
unlike_of true false e = refl
unlike_of false true e = refl
unlike_of false false e = grind (arith, e)

pub alike_of : (a c : Bool) → false ≡ differ a c → a ≡ c
alike_of true true e = refl
alike_of true false e = grind (arith, e)
alike_of false true e = grind (arith, e)
alike_of false false e = refl

pub unlike_test : (a b : Bool) → not (beq a b) ≡ differ a b
unlike_test true true = refl
unlike_test true false = refl
unlike_test false true = refl
unlike_test false false = refl

-- the low word of the product r, by n of the absolute values' product, and whether it overflows, by the whole of that and the least
-- that does
pub word_value : (L x y n r high : ℕ) (b : Bool) → L ≤ 64 → n < 2 ^ 64 → n + 2 ^ 64 * high ≡ unsigned_abs (signed L x) * unsigned_abs (signed L y) → b ≡ differ (leb (2 ^ (L - 1)) x) (leb (2 ^ (L - 1)) y) → (b ≡ false → r ≡ n) → (b ≡ true → (r + n) % 2 ^ 64 ≡ 0) → low L r ≡ low L (low_signed L (signed L x *ℤ signed L y))
word_value L x y n r high true narrow fits whole signs same opposite =
    unlike_value 64 L x y n r high narrow whole (unlike_of _ _ signs) (opposite refl)
word_value L x y n r high false narrow fits whole signs same opposite =
    ap (low L) (same refl) ∙ alike_value 64 L x y n high narrow fits whole (alike_of _ _ signs)

pub word_overflow : (L x y m least : ℕ) (b r : Bool) → m ≡ unsigned_abs (signed L x) * unsigned_abs (signed L y) → b ≡ differ (leb (2 ^ (L - 1)) x) (leb (2 ^ (L - 1)) y) → least ≡ cond b (2 ^ (L - 1) + 1) (2 ^ (L - 1)) → r ≡ leb least m → r ≡ is_outside_signed L (signed L x *ℤ signed L y)
word_overflow L x y m least true r whole signs limit is =
    unlike_overflow L x y m r whole (unlike_of _ _ signs) (is ∙ ap (λ h. leb h m) limit)
word_overflow L x y m least false r whole signs limit is =
    alike_overflow L x y m r whole (alike_of _ _ signs) (is ∙ ap (λ h. leb h m) limit)
