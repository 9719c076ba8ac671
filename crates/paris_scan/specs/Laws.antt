-- What empty lists come to, and lists in the other order.
use Rattle.std.proofs.Common.{arith, ap, ◌∙◌, sym, refl}
use Rattle.std.proofs.Math.Nat.{mod-eq_of_lt}
use Rattle.std.specs.Prelude.{◌≡◌, ℕ, ◌+◌, ◌*◌, ◌^◌, ◌%◌, ◌<◌, false, List, [], ◌∷◌, ◌++◌, sum, nat_le}
use Rattle.std.specs.Int.Bits.{or_zero_l, xor_zero_l}
use Rattle.std.proofs.lemmas.Bool.Decides.{nat_tests}
use Rattle.std.proofs.lemmas.List.Sums.{fold-append, sum_by-append}
use lib.Pow.{pow_pos}
use Rattle.paris_model.specs.Store.{bit, low}
use Rattle.paris_model.specs.Combine.{combine, combined}
use Rattle.paris_model.specs.declared.operators.Combiner.{Combiner}
use Rattle.paris_model.specs.declared.operators.Combiner.TheVariants.{BitOr, BitXor, Maximum}
use Rattle.paris_model.proofs.Combining.{associates, commutes}
use Rattle.paris_scan.specs.Firsts.{first_shown}
use Rattle.paris_scan.specs.Sums.{sum_shown}

pub none_sum : (L : ℕ) → sum_shown L [] ≡ 0
unfolding sum_shown
none_sum L =
    let some : 0 < 2 ^ L = pow_pos L in
    let none : nat_le (2 ^ L) 0 ≡ false = grind (arith, nat_tests) in
    let first : 0 % 2 ^ L ≡ 0 = mod-eq_of_lt some in
    ap (λ t. t + 2 ^ L * bit (nat_le (2 ^ L) 0)) first ∙ ap (λ b. 0 + 2 ^ L * bit b) none ∙ (let e : 0 + 2 ^ L * bit false ≡ 0 = omega arith in e)

pub sum_append : (xs ys : List ℕ) → sum (xs ++ ys) ≡ sum xs + sum ys
sum_append xs ys = sum_by-append (λ x. x) xs ys

sum_swap : (xs ys : List ℕ) → sum (xs ++ ys) ≡ sum (ys ++ xs)
sum_swap xs ys = omega (arith, sum_append xs ys, sum_append ys xs)

pub sums_swapped : (L : ℕ) (xs ys : List ℕ) → sum_shown L (xs ++ ys) ≡ sum_shown L (ys ++ xs)
unfolding sum_shown
sums_swapped L xs ys = ap (λ t. low L t + 2 ^ L * bit (nat_le (2 ^ L) t)) (sum_swap xs ys)

-- where 0 changes nothing, a list from a number on is that number and the list
from_zero : (op : Combiner) (L : ℕ) → ((x : ℕ) → combine op L 0 x ≡ x) → (x : ℕ) (ys : List ℕ) → combined op L x ys ≡ combine op L x (combined op L 0 ys)
from_zero op L zero x [] = sym (zero x) ∙ commutes op L 0 x
from_zero op L zero x (y ∷ ys) =
    from_zero op L zero (combine op L x y) ys
    ∙ associates op L x y (combined op L 0 ys)
    ∙ ap (combine op L x) (sym (from_zero op L zero (combine op L 0 y) ys ∙ ap (λ z. combine op L z (combined op L 0 ys)) (zero y)))

pub combined_append : (op : Combiner) (L : ℕ) → ((x : ℕ) → combine op L 0 x ≡ x) → (xs ys : List ℕ) → combined op L 0 (xs ++ ys) ≡ combine op L (combined op L 0 xs) (combined op L 0 ys)
combined_append op L zero xs ys = fold-append (combine op L) 0 xs ys ∙ from_zero op L zero (combined op L 0 xs) ys

swapped : (op : Combiner) (L : ℕ) → ((x : ℕ) → combine op L 0 x ≡ x) → (xs ys : List ℕ) → combined op L 0 (xs ++ ys) ≡ combined op L 0 (ys ++ xs)
swapped op L zero xs ys =
    combined_append op L zero xs ys ∙ commutes op L (combined op L 0 xs) (combined op L 0 ys) ∙ sym (combined_append op L zero ys xs)

pub or_zero : (L x : ℕ) → combine BitOr L 0 x ≡ x
or_zero L x = or_zero_l x

pub xor_zero : (L x : ℕ) → combine BitXor L 0 x ≡ x
xor_zero L x = xor_zero_l x

pub maximum_zero : (L x : ℕ) → combine Maximum L 0 x ≡ x
maximum_zero L x = omega arith

pub one_sum : (L x : ℕ) → x < 2 ^ L → sum_shown L (x ∷ []) ≡ x
unfolding sum_shown
one_sum L x h =
    let s : sum (x ∷ []) ≡ x = omega arith in
    let low_is : x % 2 ^ L ≡ x = mod-eq_of_lt h in
    let over : nat_le (2 ^ L) x ≡ false = grind (arith, nat_tests) in
    ap (λ t. t % 2 ^ L + 2 ^ L * bit (nat_le (2 ^ L) t)) s ∙ ap (λ t. t + 2 ^ L * bit (nat_le (2 ^ L) x)) low_is ∙ ap (λ b. x + 2 ^ L * bit b) over ∙ (let e : x + 2 ^ L * bit false ≡ x = omega arith in e)

pub one_or : (L x : ℕ) → x < 2 ^ L → combined BitOr L 0 (x ∷ []) ≡ x
one_or L x h = or_zero L x

pub one_xor : (L x : ℕ) → x < 2 ^ L → combined BitXor L 0 (x ∷ []) ≡ x
one_xor L x h = xor_zero L x

pub one_maximum : (L x : ℕ) → x < 2 ^ L → combined Maximum L 0 (x ∷ []) ≡ x
one_maximum L x h = maximum_zero L x

pub none_or : (L : ℕ) → combined BitOr L 0 [] ≡ 0
none_or L = refl

pub none_xor : (L : ℕ) → combined BitXor L 0 [] ≡ 0
none_xor L = refl

pub none_maximum : (L : ℕ) → combined Maximum L 0 [] ≡ 0
none_maximum L = refl

pub none_first : (L : ℕ) → first_shown L [] ≡ 0
none_first L = refl

pub ors_swapped : (L : ℕ) (xs ys : List ℕ) → combined BitOr L 0 (xs ++ ys) ≡ combined BitOr L 0 (ys ++ xs)
ors_swapped L = swapped BitOr L (or_zero L)

pub xors_swapped : (L : ℕ) (xs ys : List ℕ) → combined BitXor L 0 (xs ++ ys) ≡ combined BitXor L 0 (ys ++ xs)
xors_swapped L = swapped BitXor L (xor_zero L)

pub maxima_swapped : (L : ℕ) (xs ys : List ℕ) → combined Maximum L 0 (xs ++ ys) ≡ combined Maximum L 0 (ys ++ xs)
maxima_swapped L = swapped Maximum L (maximum_zero L)
