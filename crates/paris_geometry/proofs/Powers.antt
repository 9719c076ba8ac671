-- Lengths and strides as powers of two.
use Rattle.std.proofs.Common.{inl, inr, ◌==◌, ◌^◌, ◌≡◌, ℕ, zero, suc, ◌+◌, ◌-◌, ◌*◌, ◌%◌, ◌<◌, ◌≤◌, true, List, [], ◌∷◌, length, take, refl, sym, ap, ◌∙◌, arith, subst}
use Rattle.std.specs.Int.{IsPowerOfTwo}
use Rattle.std.specs.List.{list_all, list_any, range_with_len}
use Rattle.std.proofs.Math.Nat.{mul-mod_right, mul-suc}
use Rattle.std.proofs.Math.Pow.{pow_mono}
use Rattle.std.proofs.lemmas.Bool.{and_parts, or_cases, eqb-true, cases_lt}
use Rattle.std.proofs.lemmas.Nat.{pow-add}
use Rattle.paris_geometry.specs.Geometry.{product, stride, axis_length, processor_count, is_power_of_two, is_geometry}
use Rattle.paris_geometry.proofs.Strides.{product_first, above, all_taken, geometry_powers}
use Rattle.paris_geometry.proofs.Neighbours.{count_is}

power_of : (n a m : ℕ) → list_any (λ k. n == 2 ^ k) (range_with_len a m) ≡ true → IsPowerOfTwo n
power_of n a zero h = cc
power_of n a (suc m) h =
    elim (or_cases (n == 2 ^ a) (list_any (λ k. n == 2 ^ k) (range_with_len (a + 1) m)) h) [
      | inl here ↦ (a, eqb-true n (2 ^ a) here)
      | inr later ↦ power_of n (a + 1) m later
    ]

pub power_times : (m n : ℕ) → IsPowerOfTwo m → IsPowerOfTwo n → IsPowerOfTwo (m * n)
power_times m n p q = (p.0 + q.0, ap (λ x. x * n) p.1 ∙ ap (λ y. 2 ^ p.0 * y) q.1 ∙ sym (pow-add 2 p.0 q.0))

product_power : (axes : List ℕ) → list_all is_power_of_two axes ≡ true → IsPowerOfTwo (product axes)
product_power [] h = (0, refl)
product_power (n ∷ ns) h =
    let both = and_parts (is_power_of_two n) (list_all is_power_of_two ns) h in
    subst IsPowerOfTwo (sym (product_first n ns)) (power_times n (product ns) (power_of n 0 17 both.0) (product_power ns both.1))

-- a stride is a power of two
pub stride_power : (axes : List ℕ) (a : ℕ) → is_geometry axes ≡ true → IsPowerOfTwo (stride axes a)
stride_power axes a sound = product_power (take a axes) (all_taken axes a (geometry_powers axes sound))

nth_power : (axes : List ℕ) (a : ℕ) → list_all is_power_of_two axes ≡ true → a < length axes → IsPowerOfTwo (axis_length axes a)
nth_power [] a h within = absurd (omega arith)
nth_power (n ∷ ns) zero h within = power_of n 0 17 (and_parts (is_power_of_two n) (list_all is_power_of_two ns) h).0
nth_power (n ∷ ns) (suc a) h within = nth_power ns a (and_parts (is_power_of_two n) (list_all is_power_of_two ns) h).1 (omega arith)

-- so is the length of an axis
pub length_power : (axes : List ℕ) (a : ℕ) → is_geometry axes ≡ true → a < length axes → IsPowerOfTwo (axis_length axes a)
length_power axes a sound within = nth_power axes a (geometry_powers axes sound) within

exponents : (j k : ℕ) → 2 ^ j < 2 ^ k → j < k
exponents j k h =
    elim (cases_lt j k) [
      | inl below ↦ below
      | inr above ↦ (let more : 2 ^ k ≤ 2 ^ j = pow_mono above in absurd (omega (arith, more, h)))
    ]

-- of two powers of two the greater is a multiple of twice the other
pub power_next : (m n : ℕ) → IsPowerOfTwo m → IsPowerOfTwo n → m < n → (q : ℕ) × (n ≡ m * 2 * q)
power_next m n p q h =
    let j : ℕ = p.0 in
    let k : ℕ = q.0 in
    let em : m ≡ 2 ^ j = p.1 in
    let en : n ≡ 2 ^ k = q.1 in
    let below : j < k = exponents j k (omega (arith, em, en, h)) in
    let sum : k ≡ j + 1 + (k - j - 1) = omega (arith, below) in
    (2 ^ (k - j - 1), en ∙ ap (λ (i : ℕ). 2 ^ i) sum ∙ pow-add 2 (j + 1) (k - j - 1) ∙ ap (λ x. x * 2 ^ (k - j - 1)) (pow-add 2 j 1 ∙ ap (λ x. x * 2) (sym em)))

-- a block of an axis and the next of the same length make a block of twice the length, which lies on the axis too
pub record BlockDoubles (axes : List ℕ) (a places : ℕ) : Type 0 where
  pub power : IsPowerOfTwo (places * 2)
  pub room : places * 2 ≤ axis_length axes a
  pub whole : processor_count axes % (2 * (places * stride axes a)) ≡ 0

at_least_once : (m q n : ℕ) → n ≡ m * q → 0 < n → m ≤ n
at_least_once m zero n e h = absurd (omega (arith, e, h))
at_least_once m (suc q) n e h = omega (arith, e, mul-suc m q)

regroup : (t m q s : ℕ) → t * (m * 2 * q) * s ≡ 2 * (m * s) * (t * q)
regroup t m q s = omega arith

pub block_doubles : (axes : List ℕ) (a places : ℕ) → is_geometry axes ≡ true → a < length axes → IsPowerOfTwo places → places < axis_length axes a → BlockDoubles axes a places
block_doubles axes a places sound within power below =
    let next = power_next places (axis_length axes a) power (length_power axes a sound within) below in
    let is : axis_length axes a ≡ places * 2 * next.0 = next.1 in
    let s : ℕ = stride axes a in
    let count : processor_count axes ≡ 2 * (places * s) * (above axes a * next.0) =
    count_is axes a within ∙ ap (λ n. above axes a * n * s) is ∙ regroup (above axes a) places next.0 s in
    record {
      power = power_times places 2 power (1, refl);
      room = at_least_once (places * 2) next.0 (axis_length axes a) is (omega (arith, below));
      whole = ap (λ n. n % (2 * (places * s))) count ∙ mul-mod_right (2 * (places * s)) (above axes a * next.0);
    }
