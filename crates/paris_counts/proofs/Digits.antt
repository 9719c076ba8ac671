-- Operations that work digit by digit, over lists of numbers.
use Rattle.std.proofs.Common.{◌≡◌, ℕ, zero, suc, ◌+◌, ◌*◌, ◌%◌, ◌<◌, List, [], ◌∷◌, map, min, arith, ◌∙◌, ap, refl}
use Rattle.std.specs.Prelude.{fold, sum}
use Rattle.std.specs.Int.Bits.{bit_or, bit_xor}
use Rattle.std.proofs.lemmas.List.Sums.{sum_by-append}

-- of numbers with one digit more
abbrev pub ByDigit : (ℕ → ℕ → ℕ) → Type 0
ByDigit op = (a b r s : ℕ) → r < 2 → s < 2 → op (a * 2 + r) (b * 2 + s) ≡ op a b * 2 + op r s

abbrev pub IsClosed : (ℕ → ℕ → ℕ) → Type 0
IsClosed op = (r s : ℕ) → r < 2 → s < 2 → op r s < 2

pub fold_digits : (op : ℕ → ℕ → ℕ) → ByDigit op → IsClosed op → (f g h : ℕ → ℕ) → ((u : ℕ) → h u ≡ f u + 2 * g u) → ((u : ℕ) → f u < 2) → (us : List ℕ) (s t : ℕ) → s < 2
    → fold op (t * 2 + s) (map h us) ≡ fold op t (map g us) * 2 + fold op s (map f us)
fold_digits op by closed f g h is digit [] s t small = refl
fold_digits op by closed f g h is digit (u ∷ us) s t small =
    let parts : h u ≡ g u * 2 + f u = omega (arith, is u) in
    ap (λ z. fold op z (map h us)) (ap (op (t * 2 + s)) parts ∙ by t (g u) s (f u) small (digit u))
    ∙ fold_digits op by closed f g h is digit us (op s (f u)) (op t (g u)) (closed s (f u) small (digit u))

sum_more : (x : ℕ) (xs : List ℕ) → sum (x ∷ xs) ≡ x + sum xs
sum_more x xs = omega (arith, sum_by-append (λ y. y) (x ∷ []) xs)

-- two digits
pub or_digits : (r s : ℕ) → r < 2 → s < 2 → bit_or r s ≡ min (r + s) 1
or_digits zero zero hr hs = refl
or_digits zero (suc zero) hr hs = refl
or_digits (suc zero) zero hr hs = refl
or_digits (suc zero) (suc zero) hr hs = refl
or_digits (suc (suc r)) s hr hs = absurd (omega (arith, hr))
or_digits zero (suc (suc s)) hr hs = absurd (omega (arith, hs))
or_digits (suc zero) (suc (suc s)) hr hs = absurd (omega (arith, hs))

pub xor_digits : (r s : ℕ) → r < 2 → s < 2 → bit_xor r s ≡ (r + s) % 2
xor_digits zero zero hr hs = refl
xor_digits zero (suc zero) hr hs = refl
xor_digits (suc zero) zero hr hs = refl
xor_digits (suc zero) (suc zero) hr hs = refl
xor_digits (suc (suc r)) s hr hs = absurd (omega (arith, hr))
xor_digits zero (suc (suc s)) hr hs = absurd (omega (arith, hs))
xor_digits (suc zero) (suc (suc s)) hr hs = absurd (omega (arith, hs))

pub or_closed : IsClosed bit_or
or_closed r s hr hs = omega (arith, or_digits r s hr hs)

pub xor_closed : IsClosed bit_xor
xor_closed r s hr hs = omega (arith, xor_digits r s hr hs)

-- many digits
pub or_of_digits : (f : ℕ → ℕ) → ((u : ℕ) → f u < 2) → (us : List ℕ) (s : ℕ) → s < 2 → fold bit_or s (map f us) ≡ min (s + sum (map f us)) 1
or_of_digits f digit [] s small = omega (arith, small)
or_of_digits f digit (u ∷ us) s small =
    omega (arith, or_of_digits f digit us (bit_or s (f u)) (or_closed s (f u) small (digit u)), or_digits s (f u) small (digit u), sum_more (f u) (map f us))

pub xor_of_digits : (f : ℕ → ℕ) → ((u : ℕ) → f u < 2) → (us : List ℕ) (s : ℕ) → s < 2 → fold bit_xor s (map f us) ≡ (s + sum (map f us)) % 2
xor_of_digits f digit [] s small = omega (arith, small)
xor_of_digits f digit (u ∷ us) s small =
    omega (arith, xor_of_digits f digit us (bit_xor s (f u)) (xor_closed s (f u) small (digit u)), xor_digits s (f u) small (digit u), sum_more (f u) (map f us))
