-- Two's complement by the top bit.
use Rattle.std.proofs.Common.{◌≡◌, ℕ, ◌+◌, ◌-◌, ◌*◌, ◌^◌, ◌<◌, ℤ, pos, negsuc, ◌+ℤ◌, ◌-ℤ◌, Bool, true, false, cond, ◌||◌, refl, arith, ◌∙◌, sym, ap, int_lt, ltb, leb, mul-one}
use Rattle.std.proofs.Math.Nat.{pow-succ'}
use Rattle.std.proofs.lemmas.Int.{ints}
use Rattle.std.proofs.lemmas.Bool.Decides.{nat_tests}
use Rattle.paris_model.specs.declared.operators.Sign.TheVariants.{Signed}
use Rattle.paris_model.specs.Store.{bit, signed, is_outside_signed}
use Rattle.paris_model.specs.Elementwise.{is_less}
use Rattle.paris_plane.specs.Bits.{borrow_bit}
use Rattle.paris_alu.specs.Bits.{sum_overflow_bit, difference_overflow_bit}

pub pow_half : (L : ℕ) → 0 < L → 2 ^ L ≡ 2 * 2 ^ (L - 1)
pow_half L h = ap (λ k. 2 ^ k) (omega arith) ∙ pow-succ' 2 (L - 1)

-- a number of L bits with its top bit
pub signed_low : (L xn : ℕ) → xn < 2 ^ (L - 1) → signed L xn ≡ pos xn
signed_low L xn h = grind (arith, nat_tests)

pub signed_high : (L xn : ℕ) → 0 < L → xn < 2 ^ (L - 1) → signed L (xn + 2 ^ (L - 1)) ≡ negsuc (2 ^ (L - 1) - 1 - xn)
signed_high L xn some h = grind (arith, nat_tests, pow_half L some)

pub signed_top : (L xn : ℕ) (x : Bool) → 0 < L → xn < 2 ^ (L - 1) → signed L (xn + 2 ^ (L - 1) * bit x) ≡ cond x (negsuc (2 ^ (L - 1) - 1 - xn)) (pos xn)
signed_top L xn true some h = ap (λ t. signed L (xn + t)) (mul-one (2 ^ (L - 1))) ∙ signed_high L xn some h
signed_top L xn false some h = ap (signed L) (omega arith) ∙ signed_low L xn h

-- where the top bits count the other way
less_top : (p xn yn : ℕ) (b x y : Bool) → xn < p → yn < p → b ≡ ltb xn yn → borrow_bit b y x ≡ int_lt (cond x (negsuc (p - 1 - xn)) (pos xn)) (cond y (negsuc (p - 1 - yn)) (pos yn))
unfolding borrow_bit
less_top p xn yn b true true hx hy e = grind (arith, nat_tests)
less_top p xn yn b true false hx hy e = refl
less_top p xn yn b false true hx hy e = refl
less_top p xn yn b false false hx hy e = grind (arith, nat_tests)

pub signed_below_step : (L xn yn : ℕ) (b x y : Bool) → 0 < L → xn < 2 ^ (L - 1) → yn < 2 ^ (L - 1) → b ≡ ltb xn yn → borrow_bit b y x ≡ is_less Signed L (xn + 2 ^ (L - 1) * bit x) (yn + 2 ^ (L - 1) * bit y)
signed_below_step L xn yn b x y some hx hy e =
    less_top (2 ^ (L - 1)) xn yn b x y hx hy e
    ∙ ap (λ z. int_lt z (cond y (negsuc (2 ^ (L - 1) - 1 - yn)) (pos yn))) (sym (signed_top L xn x some hx))
    ∙ ap (int_lt (signed L (xn + 2 ^ (L - 1) * bit x))) (sym (signed_top L yn y some hy))

-- a number that is the difference of two
pub outside_by : (L : ℕ) (z : ℤ) (a b : ℕ) → z +ℤ pos b ≡ pos a → is_outside_signed L z ≡ (leb (b + 2 ^ (L - 1)) a || leb (a + 2 ^ (L - 1) + 1) b)
outside_by L (pos n) a b e =
    let f : n + b ≡ a = omega (arith, ints, e) in
    grind (arith, nat_tests, f)
outside_by L (negsuc n) a b e =
    let f : a + n + 1 ≡ b = omega (arith, ints, e) in
    grind (arith, nat_tests, f)

pub signed_by : (L xn : ℕ) (x : Bool) → 0 < L → xn < 2 ^ (L - 1) → signed L (xn + 2 ^ (L - 1) * bit x) +ℤ pos (2 ^ L * bit x) ≡ pos (xn + 2 ^ (L - 1) * bit x)
signed_by L xn true some h = rw (signed_top L xn true some h) (omega (arith, ints, pow_half L some))
signed_by L xn false some h = rw (signed_top L xn false some h) (omega (arith, ints))

-- sums and differences of numbers that are differences
sum_by : (u w : ℤ) (a b d e : ℕ) → u +ℤ pos b ≡ pos a → w +ℤ pos e ≡ pos d → (u +ℤ w) +ℤ pos (b + e) ≡ pos (a + d)
sum_by u w a b d e hu hw = omega (arith, ints, hu, hw)

difference_by : (u w : ℤ) (a b d e : ℕ) → u +ℤ pos b ≡ pos a → w +ℤ pos e ≡ pos d → (u -ℤ w) +ℤ pos (b + d) ≡ pos (a + e)
difference_by u w a b d e hu hw = omega (arith, ints, hu, hw)

sum_outside : (p m xn yn sn : ℕ) (x y s c : Bool) → m ≡ 2 * p → xn < p → yn < p → sn < p → (sn + p * bit s) + m * bit c ≡ (xn + p * bit x) + (yn + p * bit y) → sum_overflow_bit s x y ≡ (leb (m * bit x + m * bit y + p) ((xn + p * bit x) + (yn + p * bit y)) || leb ((xn + p * bit x) + (yn + p * bit y) + p + 1) (m * bit x + m * bit y))
unfolding sum_overflow_bit
sum_outside p m xn yn sn true true true true half hx hy hs e = grind (arith, nat_tests, mul-one p, mul-one m)
sum_outside p m xn yn sn true true true false half hx hy hs e = grind (arith, nat_tests, mul-one p, mul-one m)
sum_outside p m xn yn sn true true false true half hx hy hs e = grind (arith, nat_tests, mul-one p, mul-one m)
sum_outside p m xn yn sn true true false false half hx hy hs e = grind (arith, nat_tests, mul-one p, mul-one m)
sum_outside p m xn yn sn true false true true half hx hy hs e = grind (arith, nat_tests, mul-one p, mul-one m)
sum_outside p m xn yn sn true false true false half hx hy hs e = grind (arith, nat_tests, mul-one p, mul-one m)
sum_outside p m xn yn sn true false false true half hx hy hs e = grind (arith, nat_tests, mul-one p, mul-one m)
sum_outside p m xn yn sn true false false false half hx hy hs e = grind (arith, nat_tests, mul-one p, mul-one m)
sum_outside p m xn yn sn false true true true half hx hy hs e = grind (arith, nat_tests, mul-one p, mul-one m)
sum_outside p m xn yn sn false true true false half hx hy hs e = grind (arith, nat_tests, mul-one p, mul-one m)
sum_outside p m xn yn sn false true false true half hx hy hs e = grind (arith, nat_tests, mul-one p, mul-one m)
sum_outside p m xn yn sn false true false false half hx hy hs e = grind (arith, nat_tests, mul-one p, mul-one m)
sum_outside p m xn yn sn false false true true half hx hy hs e = grind (arith, nat_tests, mul-one p, mul-one m)
sum_outside p m xn yn sn false false true false half hx hy hs e = grind (arith, nat_tests, mul-one p, mul-one m)
sum_outside p m xn yn sn false false false true half hx hy hs e = grind (arith, nat_tests, mul-one p, mul-one m)
sum_outside p m xn yn sn false false false false half hx hy hs e = grind (arith, nat_tests, mul-one p, mul-one m)

-- a sum overflows where its top bit says so
pub sum_overflows : (L xn yn sn : ℕ) (x y s c : Bool) → 0 < L → xn < 2 ^ (L - 1) → yn < 2 ^ (L - 1) → sn < 2 ^ (L - 1) → (sn + 2 ^ (L - 1) * bit s) + 2 ^ L * bit c ≡ (xn + 2 ^ (L - 1) * bit x) + (yn + 2 ^ (L - 1) * bit y) → sum_overflow_bit s x y ≡ is_outside_signed L (signed L (xn + 2 ^ (L - 1) * bit x) +ℤ signed L (yn + 2 ^ (L - 1) * bit y))
sum_overflows L xn yn sn x y s c some hx hy hs e =
    sum_outside (2 ^ (L - 1)) (2 ^ L) xn yn sn x y s c (pow_half L some) hx hy hs e
    ∙ sym (outside_by L _ ((xn + 2 ^ (L - 1) * bit x) + (yn + 2 ^ (L - 1) * bit y)) (2 ^ L * bit x + 2 ^ L * bit y)
    (sum_by (signed L (xn + 2 ^ (L - 1) * bit x)) (signed L (yn + 2 ^ (L - 1) * bit y)) _ _ _ _ (signed_by L xn x some hx) (signed_by L yn y some hy)))

difference_outside : (p m xn yn dn : ℕ) (x y d c : Bool) → m ≡ 2 * p → xn < p → yn < p → dn < p → (xn + p * bit x) + m * bit c ≡ (dn + p * bit d) + (yn + p * bit y) → difference_overflow_bit d x y ≡ (leb (m * bit x + (yn + p * bit y) + p) ((xn + p * bit x) + m * bit y) || leb ((xn + p * bit x) + m * bit y + p + 1) (m * bit x + (yn + p * bit y)))
unfolding difference_overflow_bit
difference_outside p m xn yn dn true true true true half hx hy hd e = grind (arith, nat_tests, mul-one p, mul-one m)
difference_outside p m xn yn dn true true true false half hx hy hd e = grind (arith, nat_tests, mul-one p, mul-one m)
difference_outside p m xn yn dn true true false true half hx hy hd e = grind (arith, nat_tests, mul-one p, mul-one m)
difference_outside p m xn yn dn true true false false half hx hy hd e = grind (arith, nat_tests, mul-one p, mul-one m)
difference_outside p m xn yn dn true false true true half hx hy hd e = grind (arith, nat_tests, mul-one p, mul-one m)
difference_outside p m xn yn dn true false true false half hx hy hd e = grind (arith, nat_tests, mul-one p, mul-one m)
difference_outside p m xn yn dn true false false true half hx hy hd e = grind (arith, nat_tests, mul-one p, mul-one m)
difference_outside p m xn yn dn true false false false half hx hy hd e = grind (arith, nat_tests, mul-one p, mul-one m)
difference_outside p m xn yn dn false true true true half hx hy hd e = grind (arith, nat_tests, mul-one p, mul-one m)
difference_outside p m xn yn dn false true true false half hx hy hd e = grind (arith, nat_tests, mul-one p, mul-one m)
difference_outside p m xn yn dn false true false true half hx hy hd e = grind (arith, nat_tests, mul-one p, mul-one m)
difference_outside p m xn yn dn false true false false half hx hy hd e = grind (arith, nat_tests, mul-one p, mul-one m)
difference_outside p m xn yn dn false false true true half hx hy hd e = grind (arith, nat_tests, mul-one p, mul-one m)
difference_outside p m xn yn dn false false true false half hx hy hd e = grind (arith, nat_tests, mul-one p, mul-one m)
difference_outside p m xn yn dn false false false true half hx hy hd e = grind (arith, nat_tests, mul-one p, mul-one m)
difference_outside p m xn yn dn false false false false half hx hy hd e = grind (arith, nat_tests, mul-one p, mul-one m)

-- a difference overflows where its top bit says so
pub difference_overflows : (L xn yn dn : ℕ) (x y d c : Bool) → 0 < L → xn < 2 ^ (L - 1) → yn < 2 ^ (L - 1) → dn < 2 ^ (L - 1) → (xn + 2 ^ (L - 1) * bit x) + 2 ^ L * bit c ≡ (dn + 2 ^ (L - 1) * bit d) + (yn + 2 ^ (L - 1) * bit y) → difference_overflow_bit d x y ≡ is_outside_signed L (signed L (xn + 2 ^ (L - 1) * bit x) -ℤ signed L (yn + 2 ^ (L - 1) * bit y))
difference_overflows L xn yn dn x y d c some hx hy hd e =
    difference_outside (2 ^ (L - 1)) (2 ^ L) xn yn dn x y d c (pow_half L some) hx hy hd e
    ∙ sym (outside_by L _ ((xn + 2 ^ (L - 1) * bit x) + 2 ^ L * bit y) (2 ^ L * bit x + (yn + 2 ^ (L - 1) * bit y))
    (difference_by (signed L (xn + 2 ^ (L - 1) * bit x)) (signed L (yn + 2 ^ (L - 1) * bit y)) _ _ _ _ (signed_by L xn x some hx) (signed_by L yn y some hy)))
