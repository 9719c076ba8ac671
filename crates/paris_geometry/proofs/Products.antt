-- Powers of two up to 65,536, and products of a few of them.
use Rattle.std.proofs.Common.{◌≡◌, ℕ, zero, suc, ◌+◌, ◌*◌, ◌^◌, ◌<◌, ◌≤◌, ◌==◌, true, List, [], ◌∷◌, length, get_or, take, refl, subst, lit<, inl, inr, arith, add-one}
use Rattle.std.specs.List.{range_with_len, list_any, list_all}
use Rattle.std.proofs.Math.Nat.{pow-suc, pow-le-pow_right}
use Rattle.std.proofs.Math.Pow.{pow_mono}
use Rattle.std.proofs.lemmas.Bool.{and_parts, or_cases, eqb-true}
use Rattle.std.proofs.lemmas.Nat.{mul-le}
use Rattle.std.proofs.lemmas.List.Sums.{fold_more}
use Rattle.paris_geometry.specs.Geometry.{is_power_of_two, product}

-- one of the powers from a on is no greater than the last of them
power_below : (n a m : ℕ) → list_any (λ k. n == 2 ^ k) (range_with_len a m) ≡ true → n ≤ 2 ^ (a + m)
power_below n a zero h = cc
power_below n a (suc m) h =
    elim (or_cases (n == 2 ^ a) (list_any (λ k. n == 2 ^ k) (range_with_len (a + 1) m)) h) [
      | inl here ↦ (let le : a ≤ a + suc m = omega arith in let e : n ≡ 2 ^ a = eqb-true n (2 ^ a) here in let more : 2 ^ a ≤ 2 ^ (a + suc m) = pow_mono le in omega arith)
      | inr later ↦ (let e : (a + 1) + m ≡ a + suc m = omega arith in let P : ℕ → Type 0 = λ k. n ≤ 2 ^ k in subst P e (power_below n (a + 1) m later))
    ]

length_below : (n : ℕ) → is_power_of_two n ≡ true → n ≤ 2 ^ 17
length_below n h = power_below n 0 17 h

-- each of the lengths is small
lengths_small : (lengths : List ℕ) (i : ℕ) → list_all is_power_of_two lengths ≡ true → i < length lengths → get_or lengths i 0 ≤ 2 ^ 17
lengths_small [] i h within = absurd (omega arith)
lengths_small (n ∷ ns) zero h within = length_below n (and_parts (is_power_of_two n) (list_all is_power_of_two ns) h).0
lengths_small (n ∷ ns) (suc i) h within = lengths_small ns i (and_parts (is_power_of_two n) (list_all is_power_of_two ns) h).1 (omega arith)

-- one more length in a product
pub product_more : (lengths : List ℕ) (i count : ℕ) → i < length lengths → count ≡ product (take i lengths) → count * get_or lengths i 0 ≡ product (take (i + 1) lengths)
product_more lengths i count within h = rw (fold_more (λ (n m : ℕ). n * m) 1 lengths i 0 within, h) refl

pub product_small : (lengths : List ℕ) (i count : ℕ) → list_all is_power_of_two lengths ≡ true → i < length lengths → count ≤ (2 ^ 17) ^ i → count * get_or lengths i 0 ≤ (2 ^ 17) ^ (i + 1)
product_small lengths i count powers within h =
    let small : get_or lengths i 0 ≤ 2 ^ 17 = lengths_small lengths i powers within in
    rw (add-one i, pow-suc (2 ^ 17) i) (mul-le count (get_or lengths i 0) ((2 ^ 17) ^ i) (2 ^ 17) h small)

pub product_fits : (lengths : List ℕ) (i count : ℕ) → list_all is_power_of_two lengths ≡ true → length lengths ≤ 4 → i < length lengths → count ≤ (2 ^ 17) ^ i → count * get_or lengths i 0 ≤ 2 ^ 68
product_fits lengths i count powers few within h =
    let step : count * get_or lengths i 0 ≤ (2 ^ 17) ^ (i + 1) = product_small lengths i count powers within h in
    let le : i + 1 ≤ 4 = omega arith in
    let most : (2 ^ 17) ^ (i + 1) ≤ (2 ^ 17) ^ 4 = pow-le-pow_right {n = 2 ^ 17} (lit< tt) le in
    omega arith
