-- One plane more, in numbers: what each step of a loop does to what it has so far.
use Rattle.std.proofs.Common.{◌≡◌, ℕ, ◌+◌, ◌*◌, ◌<◌, Bool, true, false, not, ◌||◌, refl, arith, ltb, eqb, mul-one}
use Rattle.std.proofs.lemmas.Bool.Decides.{nat_tests}
use Rattle.paris_model.specs.Store.{bit}
use Rattle.paris_plane.specs.Bits.{differ, borrow_bit, sum_bit}
use Rattle.paris_alu.specs.Bits.{unlike_bit}

-- a difference: x with what it borrows is the difference, y and what was borrowed
pub borrow_of_bits : (x y b : Bool) → bit x + 2 * bit (borrow_bit b x y) ≡ bit (sum_bit x y b) + bit y + bit b
unfolding borrow_bit sum_bit
borrow_of_bits true true true = refl
borrow_of_bits true true false = refl
borrow_of_bits true false true = refl
borrow_of_bits true false false = refl
borrow_of_bits false true true = refl
borrow_of_bits false true false = refl
borrow_of_bits false false true = refl
borrow_of_bits false false false = refl

pub opposite_of_bits : (x b : Bool) → 0 + 2 * bit (b || x) ≡ bit (differ x b) + bit x + bit b
opposite_of_bits true true = refl
opposite_of_bits true false = refl
opposite_of_bits false true = refl
opposite_of_bits false false = refl

-- x is below y where the top bits say so, or say nothing and the rest does
pub below_step : (p xn yn : ℕ) (b x y : Bool) → xn < p → yn < p → b ≡ ltb xn yn → borrow_bit b x y ≡ ltb (xn + p * bit x) (yn + p * bit y)
unfolding borrow_bit
below_step p xn yn b true true hx hy e = grind (arith, nat_tests, mul-one p)
below_step p xn yn b true false hx hy e = grind (arith, nat_tests, mul-one p)
below_step p xn yn b false true hx hy e = grind (arith, nat_tests, mul-one p)
below_step p xn yn b false false hx hy e = grind (arith, nat_tests)

pub unlike_step : (p xn yn : ℕ) (u x y : Bool) → xn < p → yn < p → u ≡ not (eqb xn yn) → unlike_bit u x y ≡ not (eqb (xn + p * bit x) (yn + p * bit y))
unfolding unlike_bit
unlike_step p xn yn true true true hx hy e = grind (arith, nat_tests, mul-one p)
unlike_step p xn yn true true false hx hy e = grind (arith, nat_tests, mul-one p)
unlike_step p xn yn true false true hx hy e = grind (arith, nat_tests, mul-one p)
unlike_step p xn yn true false false hx hy e = grind (arith, nat_tests)
unlike_step p xn yn false true true hx hy e = grind (arith, nat_tests, mul-one p)
unlike_step p xn yn false true false hx hy e = grind (arith, nat_tests, mul-one p)
unlike_step p xn yn false false true hx hy e = grind (arith, nat_tests, mul-one p)
unlike_step p xn yn false false false hx hy e = grind (arith, nat_tests)
