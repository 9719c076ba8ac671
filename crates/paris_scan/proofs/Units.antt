-- Operators with another unit than 0, by complements, and sums.
use Rattle.std.proofs.Common.{◌≡◌, ℕ, ◌+◌, ◌-◌, ◌^◌, ◌<◌, List, [], ◌∷◌, map, bit_and, arith, ap, ◌∙◌, sym, refl}
use Rattle.std.specs.Prelude.{All, sum}
use Rattle.std.specs.Int.Bits.{bit_or, or_add_and}
use Rattle.std.proofs.Math.Nat.{mod-add-mod}
use Rattle.std.proofs.lemmas.Nat.{and_comm, and-not}
use Rattle.std.proofs.lemmas.List.Elements.{All-head, All-tail}
use lib.Pow.{pow_pos}
use Rattle.paris_model.specs.declared.operators.Combiner.{Combiner}
use Rattle.paris_model.specs.declared.operators.Combiner.TheVariants.{Sum, BitOr, BitAnd, Maximum, Minimum}
use Rattle.paris_model.specs.Store.{low}
use Rattle.paris_model.specs.Combine.{combine, combined, unit}
use Rattle.paris_model.proofs.Combining.{combined_fit}
use Rattle.paris_scan.specs.Laws.{sum_append}
use Rattle.paris_field.specs.Fields.{FieldNumbers}
use Rattle.paris_field.proofs.Places.{everywhere_same}
use Rattle.paris_scan.specs.Lines.{combined_field}
use Rattle.paris_scan.specs.Shown.{complement, complement_shown, shown_field}

-- the first combines complements as the second combines numbers
Dual : Combiner → Combiner → ℕ → Type 0
Dual up down L = (x y : ℕ) → x < 2 ^ L → y < 2 ^ L → combine up L (complement L x) (complement L y) ≡ complement L (combine down L x y)

or_dual : (L : ℕ) → Dual BitOr BitAnd L
unfolding Dual
or_dual L x y hx hy =
    let p : ℕ = 2 ^ L in
    let cy : p - 1 - y < p = omega arith in
    let a : bit_or (p - 1 - x) (p - 1 - y) + bit_and (p - 1 - x) (p - 1 - y) ≡ (p - 1 - x) + (p - 1 - y) = or_add_and (p - 1 - x) (p - 1 - y) in
    let b : bit_and (p - 1 - x) (p - 1 - y) + bit_and x (p - 1 - y) ≡ p - 1 - y = and-not L x (p - 1 - y) hx cy in
    let c : bit_and (p - 1 - y) x + bit_and y x ≡ x = and-not L y x hy hx in
    let d : bit_and x (p - 1 - y) ≡ bit_and (p - 1 - y) x = and_comm x (p - 1 - y) in
    let e : bit_and y x ≡ bit_and x y = and_comm y x in
    omega (arith, a, b, c, d, e)

maximum_dual : (L : ℕ) → Dual Maximum Minimum L
unfolding Dual
maximum_dual L x y hx hy = omega arith

double_complement : (L x : ℕ) → x < 2 ^ L → complement L (complement L x) ≡ x
double_complement L x h = omega arith

pub combined_below : (op : Combiner) (L x : ℕ) (ys : List ℕ) → x < 2 ^ L → All (λ y. y < 2 ^ L) ys → combined op L x ys < 2 ^ L
combined_below op L x [] h fits = h
combined_below op L x (y ∷ ys) h fits = combined_below op L (combine op L x y) ys (combined_fit op L x y h (All-head (λ z. z < 2 ^ L) y ys fits)) (All-tail (λ z. z < 2 ^ L) y ys fits)

dual_lists : (up down : Combiner) (L : ℕ) → Dual up down L → (x : ℕ) (ys : List ℕ) → x < 2 ^ L → All (λ y. y < 2 ^ L) ys → combined up L (complement L x) (map (complement L) ys) ≡ complement L (combined down L x ys)
unfolding Dual
dual_lists up down L dual x [] h fits = refl
dual_lists up down L dual x (y ∷ ys) h fits =
    let small : y < 2 ^ L = All-head (λ z. z < 2 ^ L) y ys fits in
    ap (λ z. combined up L z (map (complement L) ys)) (dual x y h small)
    ∙ dual_lists up down L dual (combine down L x y) ys (combined_fit down L x y h small) (All-tail (λ z. z < 2 ^ L) y ys fits)

by_complements : (up down : Combiner) (L : ℕ) → Dual up down L → (ys : List ℕ) → All (λ y. y < 2 ^ L) ys → complement_shown (λ k xs. combined up k 0 xs) L ys ≡ combined down L (2 ^ L - 1) ys
by_complements up down L dual ys fits =
    let some : 0 < 2 ^ L = pow_pos L in
    let top : 2 ^ L - 1 < 2 ^ L = omega arith in
    let none : complement L (2 ^ L - 1) ≡ 0 = omega arith in
    ap (λ z. complement L (combined up L z (map (complement L) ys))) (sym none)
    ∙ ap (complement L) (dual_lists up down L dual (2 ^ L - 1) ys top fits)
    ∙ double_complement L (combined down L (2 ^ L - 1) ys) (combined_below down L (2 ^ L - 1) ys top fits)

pub and_by_complements : (L : ℕ) (ys : List ℕ) → All (λ y. y < 2 ^ L) ys → complement_shown (λ k xs. combined BitOr k 0 xs) L ys ≡ combined BitAnd L (unit BitAnd L) ys
and_by_complements L = by_complements BitOr BitAnd L (or_dual L)

pub minimum_by_complements : (L : ℕ) (ys : List ℕ) → All (λ y. y < 2 ^ L) ys → complement_shown (λ k xs. combined Maximum k 0 xs) L ys ≡ combined Minimum L (unit Minimum L) ys
minimum_by_complements L = by_complements Maximum Minimum L (maximum_dual L)

-- a sum of low bits is the low bits of the sum
sum_from : (L x : ℕ) (ys : List ℕ) → combined Sum L (low L x) ys ≡ low L (x + sum ys)
sum_from L x [] = ap (low L) (let e : x ≡ x + 0 = omega arith in e)
sum_from L x (y ∷ ys) =
    ap (λ z. combined Sum L z ys) (mod-add-mod x (2 ^ L) y)
    ∙ sum_from L (x + y) ys
    ∙ ap (low L) (let e : x + y + sum ys ≡ x + sum (y ∷ ys) = omega (arith, sum_append (y ∷ []) ys) in e)

pub combined_sum : (L : ℕ) (ys : List ℕ) → combined Sum L (unit Sum L) ys ≡ low L (sum ys)
combined_sum L ys =
    let some : 0 < 2 ^ L = pow_pos L in
    let none : 0 ≡ low L 0 = omega arith in
    ap (λ z. combined Sum L z ys) none ∙ sum_from L 0 ys ∙ ap (low L) (let e : 0 + sum ys ≡ sum ys = omega arith in e)

-- and so in every processor
pub and_field : (n L : ℕ) (values : ℕ → List ℕ) → ((v : ℕ) → All (λ x. x < 2 ^ L) (values v)) → shown_field (complement_shown (λ k xs. combined BitOr k 0 xs)) L n values ≡ combined_field BitAnd L n values
and_field n L values fits =
    let field : List ℕ → FieldNumbers = λ xs. record { width = L; numbers = xs } in
    ap field (everywhere_same n (λ v. complement_shown (λ k xs. combined BitOr k 0 xs) L (values v)) (λ v. combined BitAnd L (unit BitAnd L) (values v)) (λ v h. and_by_complements L (values v) (fits v)))

pub minimum_field : (n L : ℕ) (values : ℕ → List ℕ) → ((v : ℕ) → All (λ x. x < 2 ^ L) (values v)) → shown_field (complement_shown (λ k xs. combined Maximum k 0 xs)) L n values ≡ combined_field Minimum L n values
minimum_field n L values fits =
    let field : List ℕ → FieldNumbers = λ xs. record { width = L; numbers = xs } in
    ap field (everywhere_same n (λ v. complement_shown (λ k xs. combined Maximum k 0 xs) L (values v)) (λ v. combined Minimum L (unit Minimum L) (values v)) (λ v h. minimum_by_complements L (values v) (fits v)))
