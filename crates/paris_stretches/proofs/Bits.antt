-- Numbers of one bit, by how many of them are 1.
use Rattle.std.proofs.Common.{◌≡◌, ℕ, zero, suc, ◌+◌, ◌-◌, ◌<◌, ◌≤◌, ◌^◌, List, [], ◌∷◌, Bool, true, false, cond, eqb, not, length, max, min, arith, ◌∙◌, sym, ap, refl}
use Rattle.std.specs.Prelude.{fold, sum}
use Rattle.std.specs.Int.{from_bool}
use Rattle.std.proofs.lemmas.Bool.Decides.{nat_tests}
use Rattle.std.proofs.lemmas.List.Elements.{All-head, All-tail}
use Rattle.std.proofs.lemmas.List.Sums.{count_by-le-length, sum_by-append}
use Rattle.paris_field.specs.Fields.{AllFit}
use Rattle.paris_stretches.specs.Stretches.{count_others, greatest, is_other, least}
use Rattle.paris_stretches.proofs.Others.{count_joined}

-- one number more
one_bit : (x : ℕ) → x < 2 → cond (is_other x) 1 0 ≡ x
one_bit x h = grind (arith, nat_tests, h)

first_bit : (x : ℕ) (xs : List ℕ) → AllFit 1 (x ∷ xs) → count_others (x ∷ xs) ≡ x + count_others xs
first_bit x xs fit =
    let small : x < 2 = omega (arith, All-head (λ y. y < 2 ^ 1) x xs fit) in
    sym (count_joined (x ∷ []) xs) ∙ ap (λ t. t + count_others xs) (let e : 0 + cond (is_other x) 1 0 ≡ x = omega (arith, one_bit x small) in e)

rest_fits : (x : ℕ) (xs : List ℕ) → AllFit 1 (x ∷ xs) → AllFit 1 xs
rest_fits x xs fit = All-tail (λ y. y < 2 ^ 1) x xs fit

pub sum_of_bits : (xs : List ℕ) → AllFit 1 xs → sum xs ≡ count_others xs
sum_of_bits [] fit = refl
sum_of_bits (x ∷ xs) fit =
    let first : sum (x ∷ xs) ≡ x + sum xs = sum_by-append (λ y. y) (x ∷ []) xs ∙ ap (λ t. t + sum xs) (let e : 0 + x ≡ x = omega arith in e) in
    omega (arith, first, first_bit x xs fit, sum_of_bits xs (rest_fits x xs fit))

most_from : (s : ℕ) (xs : List ℕ) → s < 2 → AllFit 1 xs → fold max s xs ≡ min 1 (s + count_others xs)
most_from s [] small fit = let none : count_others [] ≡ 0 = refl in omega (arith, small, none)
most_from s (x ∷ xs) small fit =
    let one : x < 2 = omega (arith, All-head (λ y. y < 2 ^ 1) x xs fit) in
    omega (arith, first_bit x xs fit, small, one, most_from (max s x) xs (omega (arith, small, one)) (rest_fits x xs fit))

pub greatest_of_bits : (xs : List ℕ) → AllFit 1 xs → greatest xs ≡ min 1 (count_others xs)
greatest_of_bits xs fit = omega (arith, most_from 0 xs (omega arith) fit)

-- the least is 1 where as many are 1 as there are
least_from : (s : ℕ) (xs : List ℕ) → s < 2 → AllFit 1 xs → fold min s xs ≡ s - min 1 (length xs - count_others xs)
least_from s [] small fit = omega arith
least_from s (x ∷ xs) small fit =
    let one : x < 2 = omega (arith, All-head (λ y. y < 2 ^ 1) x xs fit) in
    omega (arith, first_bit x xs fit, small, one, count_by-le-length is_other xs, least_from (min s x) xs (omega (arith, small, one)) (rest_fits x xs fit))

pub least_of_bits : (xs : List ℕ) → AllFit 1 xs → 0 < length xs → least xs ≡ 1 - min 1 (length xs - count_others xs)
least_of_bits [] fit some = absurd (omega (arith, some))
least_of_bits (x ∷ xs) fit some =
    let one : x < 2 = omega (arith, All-head (λ y. y < 2 ^ 1) x xs fit) in
    omega (arith, first_bit x xs fit, one, count_by-le-length is_other xs, least_from x xs one (rest_fits x xs fit))

-- a test as a number
pub whether_all : (ones count : ℕ) → ones ≤ count → from_bool (eqb ones count) ≡ 1 - min 1 (count - ones)
whether_all ones count h = grind (arith, nat_tests, h)

pub whether_some : (ones : ℕ) → from_bool (not (eqb ones 0)) ≡ min 1 ones
whether_some ones = grind (arith, nat_tests)
