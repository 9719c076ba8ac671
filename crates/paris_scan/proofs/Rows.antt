-- Rows of lines, and the rows of which half are left.
use Rattle.std.proofs.Common.{◌≡◌, ℕ, zero, suc, ◌+◌, ◌-◌, ◌*◌, ◌/◌, ◌%◌, ◌^◌, ◌<◌, ◌≤◌, List, ◌++◌, length, arith, ap, ◌∙◌, sym, subst}
use Rattle.std.specs.Int.{IsPowerOfTwo}
use Rattle.std.proofs.Math.Nat.{mul-div_cancel_left, mul-mod_right, pow-succ'}
use Rattle.std.proofs.lemmas.Nat.{div-add-mod'}
use lib.Pow.{pow_pos}
use Rattle.paris_geometry.specs.Geometry.{axis_length, processor_count, stride}
use Rattle.paris_geometry.proofs.Strides.{above, count_parts}
use Rattle.paris_scan.specs.Blocks.{block_start, row}
use Rattle.paris_scan.proofs.Gathered.{append_nil}
use Rattle.paris_scan.proofs.Spans.{line_below}

-- whole periods
pub periods : (n p q : ℕ) → p < q → p * n + n ≤ q * n
periods n p q h =
    let d : ℕ = q - p - 1 in
    let is : q ≡ p + 1 + d = omega (arith, h) in
    let scaled : q * n ≡ (p + 1 + d) * n = ap (λ x. x * n) is in
    omega (arith, scaled)

-- the first processor of the line of v
pub start_of : (s n v : ℕ) → v / s / n * n * s + v % s ≡ block_start s n v
start_of s n v =
    let split : v / s * s + v % s ≡ v = div-add-mod' v s in
    let inner : v / s / n * n + v / s % n ≡ v / s = div-add-mod' (v / s) n in
    let scaled : (v / s / n * n + v / s % n) * s ≡ v / s * s = ap (λ x. x * s) inner in
    omega (arith, split, scaled)

-- the rows of a set, in periods of an axis
pub row_count : (axes : List ℕ) (a : ℕ) → a < length axes → 0 < stride axes a → processor_count axes / stride axes a ≡ axis_length axes a * above axes a
row_count axes a within some = ap (λ x. x / stride axes a) (count_parts axes a within) ∙ mul-div_cancel_left (axis_length axes a * above axes a) some

pub period_count : (axes : List ℕ) (a : ℕ) → a < length axes → 0 < stride axes a → 0 < axis_length axes a → processor_count axes / stride axes a / axis_length axes a ≡ above axes a
period_count axes a within some more = ap (λ x. x / axis_length axes a) (row_count axes a within some) ∙ mul-div_cancel_left (above axes a) more

pub all_periods : (axes : List ℕ) (a : ℕ) → a < length axes → above axes a * (axis_length axes a * stride axes a) ≡ processor_count axes
all_periods axes a within = omega (arith, count_parts axes a within)

-- the period, the row and the place of a processor
pub place_of : (s n periods v : ℕ) → 0 < s → 0 < n → v < periods * (n * s) → (v / s / n < periods) × (v ≡ v / s / n * (n * s) + (v / s % n * s + v % s))
place_of s n periods v some more below =
    let split : v / s * s + v % s ≡ v = div-add-mod' v s in
    let inner : v / s / n * n + v / s % n ≡ v / s = div-add-mod' (v / s) n in
    let scaled : (v / s / n * n + v / s % n) * s ≡ v / s * s = ap (λ x. x * s) inner in
    (line_below periods n (v / s) more (line_below (periods * n) s v some (omega (arith, below))), omega (arith, split, scaled))

-- half of a power of two
half_of : (k m : ℕ) → m ≡ 2 ^ k → 1 < m → IsPowerOfTwo (m / 2) × (m ≡ 2 * (m / 2))
half_of zero m is more = absurd (omega (arith, is, more))
half_of (suc k) m is more =
    let twice : m ≡ 2 * 2 ^ k = omega (arith, is, pow-succ' 2 k) in
    let half : m / 2 ≡ 2 ^ k = omega (arith, twice) in
    ((k, half), omega (arith, twice, half))

pub half_power : (m : ℕ) → IsPowerOfTwo m → 1 < m → IsPowerOfTwo (m / 2) × (m ≡ 2 * (m / 2))
half_power m power more = half_of power.0 m power.1 more

pub power_some : (m : ℕ) → IsPowerOfTwo m → 0 < m
power_some m power = omega (arith, power.1, pow_pos power.0)

-- of half as many rows each stands for twice as many
pub half_rows : (n m : ℕ) → 0 < m → n % (2 * m) ≡ 0 → (n / m ≡ 2 * (n / (2 * m))) × (n % m ≡ 0)
half_rows n m some whole =
    let q : ℕ = n / (2 * m) in
    let split : q * (2 * m) + n % (2 * m) ≡ n = div-add-mod' n (2 * m) in
    let is : n ≡ m * (2 * q) = omega (arith, split, whole) in
    (ap (λ x. x / m) is ∙ mul-div_cancel_left (2 * q) some, ap (λ x. x % m) is ∙ mul-mod_right m (2 * q))

-- all rows, of which each stands for itself
pub all_places : (n : ℕ) → 0 < n → (n / n ≡ 1) × (n % n ≡ 0)
all_places n some =
    let is : n ≡ n * 1 = omega arith in
    (ap (λ x. x / n) is ∙ mul-div_cancel_left 1 some, ap (λ x. x % n) is ∙ mul-mod_right n 1)

pub row_one : (own : ℕ → List ℕ) (s u : ℕ) → row own s 1 u ≡ own u
unfolding row
row_one own s u = append_nil (own u)

-- what m of n rows show, of which each stands for as many as make n
abbrev pub Folded : (List ℕ → ℕ) → (ℕ → List ℕ) → (ℕ → ℕ) → ℕ → ℕ → ℕ → ℕ → Type 0
Folded sh own number s n periods m = (p o : ℕ) → p < periods → o < m * s → number (p * (m * s) + o) ≡ sh (row own (m * s) (n / m) (p * (n * s) + o))

-- half as many rows, where each two that are joined show one list after the other
pub folded_more : (sh : List ℕ → ℕ) (own : ℕ → List ℕ) (Q : List ℕ → Type 0) (old new : ℕ → ℕ) (words n periods m h : ℕ)
    → ((k u : ℕ) → sh (row own (2 * (h * (64 * words))) k (u + h * (64 * words)) ++ row own (2 * (h * (64 * words))) k u) ≡ sh (row own (h * (64 * words)) (2 * k) u))
    → ((t k u : ℕ) → Q (row own t k u)) → 0 < h → m ≡ 2 * h → n % m ≡ 0
    → ((p o : ℕ) (xs ys : List ℕ) → p < periods → o < 64 * (h * words) → Q xs → Q ys → old (p * (128 * (h * words)) + (64 * (h * words) + o)) ≡ sh xs → old (p * (128 * (h * words)) + o) ≡ sh ys → new (p * (64 * (h * words)) + o) ≡ sh (xs ++ ys))
    → Folded sh own old (64 * words) n periods m → Folded sh own new (64 * words) n periods h
folded_more sh own Q old new words n periods m h mixed all some twice whole joined before p o hp ho =
    let s : ℕ = 64 * words in
    let d : ℕ = h * s in
    let u : ℕ = p * (n * s) + o in
    let q : ℕ = n / (2 * h) in
    let step : 2 * h * s ≡ 2 * d = omega arith in
    let both : Folded sh own old s n periods (2 * h) = subst (λ k. Folded sh own old s n periods k) twice before in
    let upper : p * (128 * (h * words)) + (64 * (h * words) + o) ≡ p * (2 * h * s) + (d + o) = omega arith in
    let lower : p * (128 * (h * words)) + o ≡ p * (2 * h * s) + o = omega arith in
    let above : p * (n * s) + (d + o) ≡ u + d = omega arith in
    let here : p * (h * s) + o ≡ p * (64 * (h * words)) + o = omega arith in
    let high : old (p * (128 * (h * words)) + (64 * (h * words) + o)) ≡ sh (row own (2 * d) q (u + d)) =
    ap old upper ∙ both p (d + o) hp (omega (arith, ho)) ∙ ap (λ t. sh (row own t q (p * (n * s) + (d + o)))) step ∙ ap (λ x. sh (row own (2 * d) q x)) above in
    let low : old (p * (128 * (h * words)) + o) ≡ sh (row own (2 * d) q u) = ap old lower ∙ both p o hp (omega (arith, ho)) ∙ ap (λ t. sh (row own t q u)) step in
    ap new here
    ∙ joined p o (row own (2 * d) q (u + d)) (row own (2 * d) q u) hp (omega (arith, ho)) (all (2 * d) q (u + d)) (all (2 * d) q u) high low
    ∙ mixed q u
    ∙ ap (λ k. sh (row own d k u)) (sym (half_rows n h some (ap (λ x. n % x) (sym twice) ∙ whole)).0)
