-- Processors that follow one another, by lines of n.
use Rattle.std.proofs.Common.{◌≡◌, ℕ, ◌+◌, ◌-◌, ◌*◌, ◌/◌, ◌%◌, ◌^◌, ◌<◌, ◌≤◌, List, [], ◌∷◌, ◌++◌, length, get_or, arith, ◌∙◌, sym, ap, subst, inl, inr}
use Rattle.std.proofs.lemmas.Bool.{cases_lt}
use Rattle.std.proofs.lemmas.List.{get_or_append_left, get_or_push, length_push}
use Rattle.std.proofs.lemmas.Nat.{div-mul-add, mod-pow-add, mul-add-lt, mul-mod_first}
use Rattle.std.proofs.Math.Nat.{div-lt_iff_lt-mul, div-mul-le_self}

-- a line begins with a word where its length is one of whole words
pub whole_start : (i n : ℕ) → n % 64 ≡ 0 → i * n % 64 ≡ 0
whole_start i n whole =
    ap (λ m. m % 64) (let e : i * n ≡ n * i = omega arith in e) ∙ sym (mul-mod_first n i 64) ∙ ap (λ r. r * i % 64) whole ∙ (let e : 0 * i % 64 ≡ 0 = omega arith in e)

-- the line of a processor
pub in_line : (i n v : ℕ) → i * n ≤ v → v < i * n + n → v / n ≡ i
in_line i n v from below =
    let r : ℕ = v - i * n in
    ap (λ u. u / n) (let e : v ≡ i * n + r = omega (arith, from) in e) ∙ div-mul-add i n r (omega (arith, from, below))

-- one line more
pub next_line : (i n : ℕ) → (i + 1) * n ≡ i * n + n
next_line i n = omega arith

pub in_lines : (i m n v : ℕ) → i < m → i * n ≤ v → v < i * n + n → v < m * n
in_lines i m n v line from below =
    omega (arith, from, mul-add-lt i n (v - i * n) m line (omega (arith, from, below)), (let e : n * m ≡ m * n = omega arith in e))

-- the lines of m lines have numbers below m
pub line_below : (m n v : ℕ) → 0 < n → v < m * n → v / n < m
line_below m n v some below = (div-lt_iff_lt-mul some).1 below

-- one digit more of a number
pub digit_more : (x k : ℕ) → x % 2 ^ (k + 1) ≡ x % 2 ^ k + 2 ^ k * (x / 2 ^ k % 2)
digit_more x k = ap (λ j. x % 2 ^ j) (let e : k + 1 ≡ 1 + k = omega arith in e) ∙ mod-pow-add x 1 k ∙ (let e : (x / 2 ^ k % 2) * 2 ^ k + x % 2 ^ k ≡ x % 2 ^ k + 2 ^ k * (x / 2 ^ k % 2) = omega arith in e)

-- a line of those that fit lies within
pub line_within : (i m n : ℕ) → 0 < n → i < m / n → i * n + n ≤ m
line_within i m n some line =
    let last : ℕ = i * n + (n - 1) in
    let inside : last < m / n * n = in_lines i (m / n) n last line (omega arith) (omega (arith, some)) in
    omega (arith, inside, div-mul-le_self m n, some)

-- what holds of each of a list, with one more
pub each_pushed : (P : ℕ → ℕ → Type 0) (xs : List ℕ) (y : ℕ) → ((i : ℕ) → i < length xs → P i (get_or xs i 0)) → P (length xs) y → (i : ℕ) → i < length (xs ++ y ∷ []) → P i (get_or (xs ++ y ∷ []) i 0)
each_pushed P xs y each one i below =
    elim (cases_lt i (length xs)) [
      | inl h ↦ subst (P i) (sym (get_or_append_left xs (y ∷ []) 0 i h)) (each i h)
      | inr h ↦
          let e : length xs ≡ i = omega (arith, h, below, length_push xs y) in
          subst (P i) (sym (get_or_push xs y 0 i e)) (subst (λ j. P j y) e one)
    ]
