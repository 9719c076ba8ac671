-- A number is spelled in one way: by its decimal text.
use Rattle.std.proofs.Common.{◌≡◌, ℕ, zero, suc, ◌+◌, ◌-◌, ◌*◌, ◌/◌, ◌%◌, ◌^◌, ◌<◌, ◌≤◌, List, [], ◌∷◌, ◌++◌, length, true, false, refl, sym, ap, ◌∙◌, arith, get_or, append_assoc, append-nil, None, Some, nat_lt, if◌then◌else◌}
use Rattle.std.specs.Prelude.{Bool, IfSome, slice_index}
use Rattle.std.specs.List.{list_all}
use Rattle.std.proofs.lemmas.List.Folds.{list_all_at}
use Rattle.std.proofs.Math.Nat.{pow-suc, add-zero, add-suc}
use Rattle.std.proofs.Math.Nat.{le_refl}
use Rattle.std.specs.Fmt.{decimal}
use Rattle.std.proofs.lemmas.Fmt.{decimal_digit, decimal_step_wide}
use Rattle.std.proofs.lemmas.Bool.{ltb-true}
use Rattle.std.proofs.lemmas.Bool.Decides.{nat_tests}
use Rattle.paris_text.specs.Words.{is_digit, is_number, value_from, value_word, number_word}
use Rattle.paris_text.proofs.WordLemmas.{value_from_ge}
use Rattle.paris_text.proofs.JoinLemmas.{and_parts}

pub digit_bounds : (b : ℕ) → is_digit b ≡ true → (48 ≤ b) × (b ≤ 57)
digit_bounds b h = grind (arith, nat_tests)

digits_split : (b : ℕ) (bs : List ℕ) → list_all is_digit (b ∷ bs) ≡ true → (is_digit b ≡ true) × (list_all is_digit bs ≡ true)
digits_split b bs h = and_parts (is_digit b) (list_all is_digit bs) h

-- digits after a number that is not 0
below_of : (a b c : ℕ) → a ≤ b → b < c → a < c
below_of a b c h k = omega arith

grows : (n : ℕ) (front rest : List ℕ) → 1 ≤ n → decimal n ≡ front → list_all is_digit rest ≡ true → value_from n rest < 10 ^ 64
    → decimal (value_from n rest) ≡ front ++ rest
grows n front [] some spelled digits small = spelled ∙ sym (append-nil front)
grows n front (b ∷ bs) some spelled digits small =
    let parts = digits_split b bs digits in
    let bounds = digit_bounds b parts.0 in
    let m = n * 10 + (b - 48) in
    let ge = value_from_ge m bs in
    let ten : 10 ≤ m = omega (arith, bounds.0) in
    let below : m < 10 ^ 64 = below_of m (value_from m bs) (10 ^ 64) ge small in
    let quotient : m / 10 ≡ n = omega (arith, bounds.0, bounds.1) in
    let last : 48 + m % 10 ≡ b = omega (arith, bounds.0, bounds.1) in
    let here : decimal m ≡ front ++ b ∷ [] =
    decimal_step_wide m ten below ∙ ap (λ (k : ℕ). decimal k ++ (48 + m % 10) ∷ []) quotient
    ∙ ap (λ (l : List ℕ). l ++ (48 + m % 10) ∷ []) spelled ∙ ap (λ (k : ℕ). front ++ k ∷ []) last in
    grows m (front ++ b ∷ []) bs (omega (arith, ten)) here parts.1 small ∙ append_assoc front (b ∷ []) bs

number_digits : (w : List ℕ) → is_number w ≡ true → list_all is_digit w ≡ true
unfolding is_number
number_digits w h = grind (arith, nat_tests)

number_some : (w : List ℕ) → is_number w ≡ true → 0 < length w
unfolding is_number
number_some w h = grind (arith, nat_tests)

number_first : (w : List ℕ) → is_number w ≡ true → 1 < length w → 48 < slice_index w 0
unfolding is_number
number_first w h long = grind (arith, nat_tests)

-- a word that is a number is the decimal text of its value
pub spelled_back : (w : List ℕ) → is_number w ≡ true → value_from 0 w < 10 ^ 64 → decimal (value_from 0 w) ≡ w
spelled_back [] h small = let some = number_some [] h in absurd (omega (arith, some))
spelled_back (b ∷ bs) h small = go bs h small
  where
    digit : (ds : List ℕ) → is_number (b ∷ ds) ≡ true → (0 * 10 + (b - 48) < 10) × (48 + (0 * 10 + (b - 48)) ≡ b)
    digit ds e =
        let bounds = digit_bounds b (digits_split b ds (number_digits (b ∷ ds) e)).0 in
        (omega (arith, bounds.0, bounds.1), omega (arith, bounds.0))

    one : (ds : List ℕ) → is_number (b ∷ ds) ≡ true → decimal (0 * 10 + (b - 48)) ≡ b ∷ []
    one ds e = decimal_digit (0 * 10 + (b - 48)) (digit ds e).0 ∙ ap (λ (k : ℕ). k ∷ []) (digit ds e).1

    go : (ds : List ℕ) → is_number (b ∷ ds) ≡ true → value_from 0 (b ∷ ds) < 10 ^ 64 → decimal (value_from 0 (b ∷ ds)) ≡ b ∷ ds
    go [] e k = one [] e
    go (c ∷ cs) e k =
        let long : 1 < length (b ∷ c ∷ cs) = omega arith in
        let first : 48 < b = number_first (b ∷ c ∷ cs) e long in
        grows (0 * 10 + (b - 48)) (b ∷ []) (c ∷ cs) (omega (arith, first)) (one (c ∷ cs) e) (digits_split b (c ∷ cs) (number_digits (b ∷ c ∷ cs) e)).1 k

pub value_spelled : (w : List ℕ) → IfSome (value_word w) (λ n. decimal n ≡ w)
value_spelled w = go (is_number w) refl (nat_lt (value_from 0 w) (2 ^ 128)) refl
  where
    go : (b : Bool) → is_number w ≡ b → (t : Bool) → nat_lt (value_from 0 w) (2 ^ 128) ≡ t
        → IfSome (if b then (if t then Some (value_from 0 w) else None) else None) (λ n. decimal n ≡ w)
    go false e t f = tt
    go true e false f = tt
    go true e true f =
        let lt : value_from 0 w < 2 ^ 128 = ltb-true (value_from 0 w) (2 ^ 128) f in
        spelled_back w e (omega (arith, lt))

pub number_spelled : (w : List ℕ) → IfSome (number_word w) (λ n. decimal n ≡ w)
number_spelled w = go (is_number w) refl (nat_lt (value_from 0 w) (2 ^ 64)) refl
  where
    go : (b : Bool) → is_number w ≡ b → (t : Bool) → nat_lt (value_from 0 w) (2 ^ 64) ≡ t
        → IfSome (if b then (if t then Some (value_from 0 w) else None) else None) (λ n. decimal n ≡ w)
    go false e t f = tt
    go true e false f = tt
    go true e true f =
        let lt : value_from 0 w < 2 ^ 64 = ltb-true (value_from 0 w) (2 ^ 64) f in
        spelled_back w e (omega (arith, lt))

-- each of some digits is one
pub digit_at : (w : List ℕ) (i : ℕ) → list_all is_digit w ≡ true → i < length w → (48 ≤ get_or w i 0) × (get_or w i 0 ≤ 57)
digit_at w i digits within = go (is_digit (get_or w i 0)) refl
  where
    go : (t : Bool) → is_digit (get_or w i 0) ≡ t → (48 ≤ get_or w i 0) × (get_or w i 0 ≤ 57)
    go true e = digit_bounds (get_or w i 0) e
    go false e = absurd (grind (arith, list_all_at is_digit w i 0 within e, digits))

-- a number of so many digits with one digit more
pub more_digits : (n i b : ℕ) → n < 10 ^ i → b ≤ 57 → n * 10 + (b - 48) < 10 ^ suc i
more_digits n i b small digit = rw (pow-suc 10 i) (omega (arith, small, digit))

tens_ge : (k i : ℕ) → 10 ^ i ≤ 10 ^ (i + k)
tens_ge zero i = rw (add-zero i) (le_refl (10 ^ i))
tens_ge (suc k) i = let ih = tens_ge k i in rw (add-suc i k, pow-suc 10 (i + k)) (omega (arith, ih))

-- a number of fewer than 19 digits has 18 at most
pub eighteen_digits : (n i : ℕ) → n < 10 ^ i → i < 19 → n < 10 ^ 18
eighteen_digits n i small few =
    let ge = tens_ge (18 - i) i in
    let all : i + (18 - i) ≡ 18 = omega (arith, few) in
    let ge18 : 10 ^ i ≤ 10 ^ 18 = rw all at ge in
    omega (arith, ge18, small)
