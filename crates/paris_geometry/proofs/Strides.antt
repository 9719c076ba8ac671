-- Strides: the count of processors is the stride of an axis times the axis's length times the lengths above it.
use lib.Pow.{pow_pos}
use Rattle.std.proofs.Common.{lit<, inl, inr, ◌==◌, ◌^◌, ◌≡◌, ℕ, zero, suc, ◌+◌, ◌*◌, ◌<◌, ◌≤◌, true, List, [], ◌∷◌, length, take, drop, refl, sym, ap, ◌∙◌, arith}
use Rattle.std.specs.Prelude.{fold, ◌&&◌, nat_lt, nat_le}
use Rattle.std.specs.List.{list_all, list_any, range_with_len}
use Rattle.std.proofs.Math.Nat.{mul_assoc, mul-one, one-mul, mul-pos}
use Rattle.std.proofs.lemmas.Bool.{and_parts, or_cases, eqb-true}
use Rattle.paris_geometry.specs.Geometry.{product, stride, axis_length, processor_count, is_power_of_two, is_geometry}

scaled : (m : ℕ) (ns : List ℕ) → fold (λ n k. n * k) m ns ≡ m * product ns
scaled m [] = sym (mul-one m)
scaled m (n ∷ ns) = scaled (m * n) ns ∙ mul_assoc m n (product ns) ∙ ap (λ x. m * x) (sym (scaled (1 * n) ns ∙ ap (λ x. x * product ns) (one-mul n)))

-- the first length goes out of a product
pub product_first : (n : ℕ) (ns : List ℕ) → product (n ∷ ns) ≡ n * product ns
product_first n ns = scaled (1 * n) ns ∙ ap (λ x. x * product ns) (one-mul n)

pub stride_first : (n : ℕ) (ns : List ℕ) (a : ℕ) → stride (n ∷ ns) (suc a) ≡ n * stride ns a
stride_first n ns a = product_first n (take a ns)

-- how many processors there are along the axes above one
abbrev pub above : List ℕ → ℕ → ℕ
above axes a = product (drop (suc a) axes)

pub count_parts : (axes : List ℕ) (a : ℕ) → a < length axes → processor_count axes ≡ stride axes a * (axis_length axes a * above axes a)
count_parts [] a within = absurd (omega arith)
count_parts (n ∷ ns) zero within = product_first n ns ∙ sym (one-mul (n * product ns))
count_parts (n ∷ ns) (suc a) within =
    product_first n ns
    ∙ ap (λ x. n * x) (count_parts ns a (omega arith))
    ∙ sym (mul_assoc n (stride ns a) (axis_length ns a * above ns a))
    ∙ ap (λ x. x * (axis_length ns a * above ns a)) (sym (stride_first n ns a))

power_positive : (n a m : ℕ) → list_any (λ k. n == 2 ^ k) (range_with_len a m) ≡ true → 0 < n
power_positive n a zero h = cc
power_positive n a (suc m) h =
    elim (or_cases (n == 2 ^ a) (list_any (λ k. n == 2 ^ k) (range_with_len (a + 1) m)) h) [
      | inl here ↦ (let e : n ≡ 2 ^ a = eqb-true n (2 ^ a) here in let some : 0 < 2 ^ a = pow_pos a in omega arith)
      | inr later ↦ power_positive n (a + 1) m later
    ]

-- each length of powers of two is positive, and so are their products
pub product_positive : (axes : List ℕ) → list_all is_power_of_two axes ≡ true → 0 < product axes
product_positive [] h = lit< tt
product_positive (n ∷ ns) h =
    let both = and_parts (is_power_of_two n) (list_all is_power_of_two ns) h in
    rw (product_first n ns) (mul-pos (power_positive n 0 17 both.0) (product_positive ns both.1))

pub all_taken : (axes : List ℕ) (a : ℕ) → list_all is_power_of_two axes ≡ true → list_all is_power_of_two (take a axes) ≡ true
all_taken axes zero h = refl
all_taken [] (suc a) h = refl
all_taken (n ∷ ns) (suc a) h =
    let both = and_parts (is_power_of_two n) (list_all is_power_of_two ns) h in
    rw both.0 (all_taken ns a both.1)

all_dropped : (axes : List ℕ) (a : ℕ) → list_all is_power_of_two axes ≡ true → list_all is_power_of_two (drop a axes) ≡ true
all_dropped axes zero h = h
all_dropped [] (suc a) h = refl
all_dropped (n ∷ ns) (suc a) h = all_dropped ns a (and_parts (is_power_of_two n) (list_all is_power_of_two ns) h).1

pub stride_positive : (axes : List ℕ) (a : ℕ) → list_all is_power_of_two axes ≡ true → 0 < stride axes a
stride_positive axes a h = product_positive (take a axes) (all_taken axes a h)

pub above_positive : (axes : List ℕ) (a : ℕ) → list_all is_power_of_two axes ≡ true → 0 < above axes a
above_positive axes a h = product_positive (drop (suc a) axes) (all_dropped axes (suc a) h)

pub length_positive : (axes : List ℕ) (a : ℕ) → list_all is_power_of_two axes ≡ true → a < length axes → 0 < axis_length axes a
length_positive [] a h within = absurd (omega arith)
length_positive (n ∷ ns) zero h within = power_positive n 0 17 (and_parts (is_power_of_two n) (list_all is_power_of_two ns) h).0
length_positive (n ∷ ns) (suc a) h within = length_positive ns a (and_parts (is_power_of_two n) (list_all is_power_of_two ns) h).1 (omega arith)

-- a geometry's lengths are powers of two, and its processors few
geometry_parts : (axes : List ℕ) → is_geometry axes ≡ true → (nat_le (processor_count axes) 65536 ≡ true) × (list_all is_power_of_two axes ≡ true)
geometry_parts axes h =
    let some = nat_lt 0 (length axes) && nat_le (length axes) 4 in
    let parts = and_parts (some && list_all is_power_of_two axes) (nat_le (processor_count axes) 65536) h in
    (parts.1, (and_parts some (list_all is_power_of_two axes) parts.0).1)

pub geometry_powers : (axes : List ℕ) → is_geometry axes ≡ true → list_all is_power_of_two axes ≡ true
geometry_powers axes h = (geometry_parts axes h).1

pub geometry_few : (axes : List ℕ) → is_geometry axes ≡ true → nat_le (processor_count axes) 65536 ≡ true
geometry_few axes h = (geometry_parts axes h).0

pub geometry_small : (axes : List ℕ) → is_geometry axes ≡ true → processor_count axes ≤ 65536
geometry_small axes h = (let few : nat_le (processor_count axes) 65536 ≡ true = geometry_few axes h in grind arith)
