-- Coordinates are bits of the address, since the axes' lengths are powers of two.
use Rattle.std.proofs.Common.{◌≡◌, ◌≤◌, ℕ, zero, suc, ◌+◌, ◌-◌, ◌*◌, ◌/◌, ◌%◌, ◌^◌, ◌<◌, ◌==◌, true, List, [], ◌∷◌, length, get_or, min, arith, ap, ◌∙◌, sym, inl, inr, refl}
use Rattle.std.specs.Prelude.{◌&&◌, nat_lt, nat_le}
use Rattle.std.specs.Int.{trailing_zeros, w64}
use Rattle.std.specs.List.{range_with_len, list_any, list_all}
use Rattle.std.proofs.Math.Nat.{mod-eq_of_lt, div-one}
use Rattle.std.proofs.Math.Pow.{mod-mod-pow, pow_mono, pow-lt}
use Rattle.std.proofs.lemmas.Bool.{and_parts, or_cases, eqb-true, cases_eq, cases_lt}
use Rattle.std.proofs.lemmas.Nat.{mod_below, pow-add}
use Rattle.std.proofs.lemmas.Nat.Bits.{bit_at-trailing_zeros, bit_at-pow_other}
use lib.Pow.{pow_pos}
use Rattle.paris_geometry.specs.Geometry.{axis_length, coordinate, is_geometry, is_power_of_two, processor_count, stride}
use Rattle.paris_geometry.proofs.Products.{product_more}
use Rattle.paris_geometry.proofs.Strides.{geometry_powers}
use Rattle.paris_model.specs.Store.{low, everywhere}
use Rattle.paris_model.proofs.Stores.{everywhere-same}

-- the lowest 1 of a power of two
trailing_zeros-pow : (a : ℕ) → a < 64 → trailing_zeros w64 (2 ^ a) ≡ a
trailing_zeros-pow a h =
    let lowest = bit_at-trailing_zeros w64 (2 ^ a) (pow_pos a) (pow-lt h) in
    elim (cases_eq (trailing_zeros w64 (2 ^ a)) a) [
      | inl e ↦ e
      | inr other ↦ absurd (omega (arith, lowest.1, bit_at-pow_other a (trailing_zeros w64 (2 ^ a)) other))
    ]

exponent_among : (n a m : ℕ) → a + m ≤ 64 → list_any (λ k. n == 2 ^ k) (range_with_len a m) ≡ true → (n ≡ 2 ^ trailing_zeros w64 n) × (trailing_zeros w64 n < a + m)
exponent_among n a zero room h = cc
exponent_among n a (suc m) room h =
    elim (or_cases (n == 2 ^ a) (list_any (λ k. n == 2 ^ k) (range_with_len (a + 1) m)) h) [
      | inl here ↦
          let e : n ≡ 2 ^ a = eqb-true n (2 ^ a) here in
          let z : trailing_zeros w64 n ≡ a = ap (trailing_zeros w64) e ∙ trailing_zeros-pow a (omega arith) in
          (e ∙ ap (λ k. 2 ^ k) (sym z), omega arith)
      | inr later ↦
          let rest = exponent_among n (a + 1) m (omega arith) later in
          (rest.0, omega (arith, rest.1))
    ]

pub exponent_is : (n : ℕ) → is_power_of_two n ≡ true → n ≡ 2 ^ trailing_zeros w64 n
exponent_is n h = (exponent_among n 0 17 (omega arith) h).0

pub exponent_small : (n : ℕ) → is_power_of_two n ≡ true → trailing_zeros w64 n ≤ 16
exponent_small n h = omega (arith, (exponent_among n 0 17 (omega arith) h).1)

power_among : (axes : List ℕ) (i : ℕ) → list_all is_power_of_two axes ≡ true → i < length axes → is_power_of_two (get_or axes i 0) ≡ true
power_among [] i h within = absurd (omega (arith, within))
power_among (n ∷ ns) zero h within = (and_parts (is_power_of_two n) (list_all is_power_of_two ns) h).0
power_among (n ∷ ns) (suc i) h within = power_among ns i (and_parts (is_power_of_two n) (list_all is_power_of_two ns) h).1 (omega (arith, within))

pub power_at : (axes : List ℕ) (i : ℕ) → is_geometry axes ≡ true → i < length axes → is_power_of_two (get_or axes i 0) ≡ true
power_at axes i sound within = power_among axes i (geometry_powers axes sound) within

pub axes_few : (axes : List ℕ) → is_geometry axes ≡ true → length axes ≤ 4
axes_few axes sound =
    let first = nat_lt 0 (length axes) && nat_le (length axes) 4 in
    let powers = and_parts (first && list_all is_power_of_two axes) (nat_le (processor_count axes) 65536) sound in
    let few : nat_le (length axes) 4 ≡ true = (and_parts (nat_lt 0 (length axes)) (nat_le (length axes) 4) (and_parts first (list_all is_power_of_two axes) powers.0).0).1 in
    grind arith

pub stride_more : (axes : List ℕ) (i from more : ℕ) → i < length axes → stride axes i ≡ 2 ^ from → get_or axes i 0 ≡ 2 ^ more → stride axes (i + 1) ≡ 2 ^ (from + more)
stride_more axes i from more within so_far next =
    sym (product_more axes i (stride axes i) within refl)
    ∙ ap (λ n. n * get_or axes i 0) so_far ∙ ap (λ n. 2 ^ from * n) next ∙ sym (pow-add 2 from more)

-- the low b bits of the low m bits
low_of_low : (x m b : ℕ) → x % 2 ^ min m b ≡ x % 2 ^ m % 2 ^ b
low_of_low x m b =
    elim (cases_lt m b) [
      | inl below ↦
          let least : min m b ≡ m = omega arith in
          let le : m ≤ b = omega arith in
          let small : x % 2 ^ m < 2 ^ b = omega (arith, mod_below x (2 ^ m) (pow_pos m), pow_mono le) in
          ap (λ k. x % 2 ^ k) least ∙ sym (mod-eq_of_lt small)
      | inr above ↦
          let least : min m b ≡ b = omega arith in
          let parts : m ≡ (m - b) + b = omega arith in
          ap (λ k. x % 2 ^ k) least ∙ sym (ap (λ k. x % 2 ^ k % 2 ^ b) parts ∙ mod-mod-pow x (m - b) b)
    ]

pub coordinates_are : (axes : List ℕ) (a from m bits n : ℕ) → stride axes a ≡ 2 ^ from → axis_length axes a ≡ 2 ^ m → n ≡ processor_count axes → everywhere n (λ v. v / 2 ^ from % 2 ^ min m bits) ≡ everywhere (processor_count axes) (λ v. low bits (coordinate axes a v))
coordinates_are axes a from m bits n below own count =
    ap (λ k. everywhere k (λ v. v / 2 ^ from % 2 ^ min m bits)) count
    ∙ everywhere-same (processor_count axes) (λ v. v / 2 ^ from % 2 ^ min m bits) (λ v. low bits (coordinate axes a v)) (λ v h.
    low_of_low (v / 2 ^ from) m bits
    ∙ ap (λ s. v / s % 2 ^ m % 2 ^ bits) (sym below)
    ∙ ap (λ l. v / stride axes a % l % 2 ^ bits) (sym own))

-- no address has more than 16 bits
pub addresses_are : (n bits : ℕ) → n ≤ 65536 → everywhere n (λ v. v / 2 ^ 0 % 2 ^ min 16 bits) ≡ everywhere n (low bits)
addresses_are n bits few = everywhere-same n (λ v. v / 2 ^ 0 % 2 ^ min 16 bits) (low bits) (λ v h.
    let small : v < 2 ^ 16 = omega arith in
    low_of_low (v / 2 ^ 0) 16 bits ∙ ap (low bits) (ap (λ x. x % 2 ^ 16) (div-one v) ∙ mod-eq_of_lt small))
