-- Numbers of one length as numbers of another.
use Rattle.std.proofs.Common.{◌≡◌, ◌≢◌, ◌≤◌, ℕ, zero, suc, ◌+◌, ◌-◌, ◌*◌, ◌/◌, ◌%◌, ◌^◌, ◌<◌, List, [], ◌∷◌, ◌++◌, Bool, true, false, not, ◌||◌, replicate, length, inl, inr, leb, eqb, arith, ◌∙◌, sym, ap, mul-one}
use Rattle.std.proofs.Math.Pow.{pow_mono}
use Rattle.std.proofs.Math.Nat.{pow-succ', mul_assoc, mul-add, mul_comm, mul-le-mul_left}
use Rattle.std.proofs.lemmas.Nat.{mod-mul-add, pow-add, pow_pos, div-add-mod'}
use Rattle.std.proofs.lemmas.Bool.{cases_eq, cases_lt}
use Rattle.std.proofs.lemmas.Bool.Decides.{nat_tests}
use Rattle.paris_model.specs.Store.{bit, signed, low_signed, is_outside_signed}
use Rattle.paris_field.specs.Numbers.{bit_in, number_at}
use Rattle.paris_alu.proofs.Signs.{pow_half, signed_top, signed_by, outside_by}
use Rattle.paris_alu.proofs.Results.{mod_small}

double_pow : (k b : ℕ) → 2 ^ suc k * b ≡ 2 * (2 ^ k * b)
double_pow k b = ap (λ p. p * b) (pow-succ' 2 k) ∙ mul_assoc 2 (2 ^ k) b

-- planes above others
pub number_above : (xs ys : List (List Bool)) (v : ℕ) → number_at (xs ++ ys) v ≡ number_at xs v + 2 ^ length xs * number_at ys v
unfolding number_at
number_above [] ys v = omega arith
number_above (x ∷ xs) ys v = omega (arith, number_above xs ys v, double_pow (length xs) (number_at ys v))

-- a plane k times
pub number_repeated : (k : ℕ) (r : List Bool) (v : ℕ) → number_at (replicate k r) v + bit_in r v ≡ 2 ^ k * bit_in r v
unfolding number_at
number_repeated zero r v = omega arith
number_repeated (suc k) r v = omega (arith, number_repeated k r v, double_pow k (bit_in r v))

positive : (high rest : ℕ) → high ≢ rest → rest ≡ 0 → 1 ≤ high
positive zero rest other none = absurd (other (sym none))
positive (suc high) rest other none = omega arith

pub times_zero : (q high : ℕ) → high ≡ 0 → q * high ≡ 0
times_zero q high none = omega (arith, ap (λ z. q * z) none)

-- the low bits from the other end
mod_flip : (q k x : ℕ) → 0 < q → x < q * k → x % q ≡ q - 1 - (q * k - 1 - x) % q
mod_flip q k x some h =
    elim (cases_lt (x / q) k) [
      | inl below ↦
          let d : ℕ = k - 1 - x / q in
          let whole : q * k ≡ q * (x / q) + (q + q * d) =
          ap (λ t. q * t) (omega arith) ∙ mul-add q (x / q) (1 + d) ∙ ap (λ t. q * (x / q) + t) (mul-add q 1 d ∙ ap (λ t. t + q * d) (mul-one q)) in
          let rest : q * k - 1 - x ≡ d * q + (q - 1 - x % q) =
          omega (arith, whole, mul_comm q d, mul_comm q (x / q), div-add-mod' x q) in
          omega (arith, ap (λ t. t % q) rest ∙ mod-mul-add d q (q - 1 - x % q) (omega arith))
      | inr above ↦ absurd (omega (arith, mul-le-mul_left q above, mul_comm q (x / q), div-add-mod' x q))
    ]

-- fewer bits
pub signed_narrow : (L M xn : ℕ) (t : Bool) → 0 < M → L ≤ M → xn < 2 ^ (M - 1) → (xn + 2 ^ (M - 1) * bit t) % 2 ^ L ≡ low_signed L (signed M (xn + 2 ^ (M - 1) * bit t))
signed_narrow L M xn false some narrow h =
    ap (λ z. z % 2 ^ L) (omega arith) ∙ sym (ap (low_signed L) (signed_top M xn false some h))
signed_narrow L M xn true some narrow h =
    let split : 2 ^ L * 2 ^ (M - L) ≡ 2 * 2 ^ (M - 1) = sym (pow-add 2 L (M - L)) ∙ ap (λ k. 2 ^ k) (omega arith) ∙ pow_half M some in
    let x : xn + 2 ^ (M - 1) * 1 ≡ xn + 2 ^ (M - 1) = omega arith in
    ap (λ z. z % 2 ^ L) x
    ∙ mod_flip (2 ^ L) (2 ^ (M - L)) (xn + 2 ^ (M - 1)) (pow_pos L) (omega (arith, split))
    ∙ ap (λ z. 2 ^ L - 1 - z % 2 ^ L) (omega (arith, split))
    ∙ sym (ap (low_signed L) (signed_top M xn true some h))

-- more bits
pub signed_wide : (L M xn r : ℕ) (t : Bool) → 0 < M → M ≤ L → xn < 2 ^ (M - 1) → r + bit t ≡ 2 ^ (L - M) * bit t → (xn + 2 ^ (M - 1) * bit t) + 2 ^ M * r ≡ low_signed L (signed M (xn + 2 ^ (M - 1) * bit t))
signed_wide L M xn r false some wide h e =
    let none : r ≡ 0 = omega (arith, e) in
    let larger : 2 ^ M ≤ 2 ^ L = pow_mono wide in
    let x : (xn + 2 ^ (M - 1) * 0) + 2 ^ M * r ≡ xn = omega (arith, ap (λ z. 2 ^ M * z) none) in
    x ∙ sym (mod_small (2 ^ L) xn (omega (arith, pow_half M some))) ∙ sym (ap (low_signed L) (signed_top M xn false some h))
signed_wide L M xn r true some wide h e =
    let split : 2 ^ M * (r + 1) ≡ 2 ^ L = ap (λ z. 2 ^ M * z) (omega (arith, e)) ∙ sym (pow-add 2 M (L - M)) ∙ ap (λ k. 2 ^ k) (omega arith) in
    let small : (2 ^ (M - 1) - 1 - xn) % 2 ^ L ≡ 2 ^ (M - 1) - 1 - xn = mod_small (2 ^ L) (2 ^ (M - 1) - 1 - xn) (omega (arith, split, mul-add (2 ^ M) r 1, pow_half M some)) in
    let x : (xn + 2 ^ (M - 1) * 1) + 2 ^ M * r ≡ 2 ^ L - 1 - (2 ^ (M - 1) - 1 - xn) = omega (arith, split, mul-add (2 ^ M) r 1, pow_half M some) in
    x ∙ ap (λ z. 2 ^ L - 1 - z) (sym small) ∙ sym (ap (low_signed L) (signed_top M xn true some h))

-- more bits hold each number
wide_inside : (p u m xn : ℕ) (t : Bool) → m ≡ 2 * u → u ≤ p → xn < u → (leb (m * bit t + p) (xn + u * bit t) || leb (xn + u * bit t + p + 1) (m * bit t)) ≡ false
wide_inside p u m xn true half h below = grind (arith, nat_tests, mul-one u, mul-one m)
wide_inside p u m xn false half h below = grind (arith, nat_tests)

signed_outside : (L M xn : ℕ) (t : Bool) → 0 < M → xn < 2 ^ (M - 1) → is_outside_signed L (signed M (xn + 2 ^ (M - 1) * bit t)) ≡ (leb (2 ^ M * bit t + 2 ^ (L - 1)) (xn + 2 ^ (M - 1) * bit t) || leb (xn + 2 ^ (M - 1) * bit t + 2 ^ (L - 1) + 1) (2 ^ M * bit t))
signed_outside L M xn t some h = outside_by L (signed M (xn + 2 ^ (M - 1) * bit t)) (xn + 2 ^ (M - 1) * bit t) (2 ^ M * bit t) (signed_by M xn t some h)

pub signed_fits : (L M xn : ℕ) (t : Bool) → 0 < M → M ≤ L → xn < 2 ^ (M - 1) → is_outside_signed L (signed M (xn + 2 ^ (M - 1) * bit t)) ≡ false
signed_fits L M xn t some wide h =
    signed_outside L M xn t some h ∙ wide_inside (2 ^ (L - 1)) (2 ^ (M - 1)) (2 ^ M) xn t (pow_half M some) (pow_mono (omega arith)) h

-- fewer bits hold those whose higher bits are all the top bit that is left
none_above : (p u m q qh lo xn high rest : ℕ) (t : Bool) → q ≡ 2 * p → m ≡ 2 * u → lo < p → xn < u → xn + u * bit t ≡ lo + qh → high ≡ rest → qh ≡ 0 → q ≤ m → not (eqb high rest) ≡ (leb (m * bit t + p) (xn + u * bit t) || leb (xn + u * bit t + p + 1) (m * bit t))
none_above p u m q qh lo xn high rest true hq hm hl hx e same none room = grind (arith, nat_tests, mul-one u, mul-one m)
none_above p u m q qh lo xn high rest false hq hm hl hx e same none room = grind (arith, nat_tests)

some_above : (p u m q qh lo xn high rest : ℕ) (t : Bool) → q ≡ 2 * p → m ≡ 2 * u → lo < p → xn < u → xn + u * bit t ≡ lo + qh → high ≢ rest → q ≤ qh → qh + q ≤ m → not (eqb high rest) ≡ (leb (m * bit t + p) (xn + u * bit t) || leb (xn + u * bit t + p + 1) (m * bit t))
some_above p u m q qh lo xn high rest true hq hm hl hx e other some room = grind (arith, nat_tests, mul-one u, mul-one m)
some_above p u m q qh lo xn high rest false hq hm hl hx e other some room = grind (arith, nat_tests)

all_above : (p u m q qh lo xn high rest : ℕ) (t : Bool) → q ≡ 2 * p → m ≡ 2 * u → lo < p → xn < u → xn + u * bit t ≡ lo + p + qh → high ≡ rest → qh + q ≡ m → not (eqb high rest) ≡ (leb (m * bit t + p) (xn + u * bit t) || leb (xn + u * bit t + p + 1) (m * bit t))
all_above p u m q qh lo xn high rest true hq hm hl hx e same all = grind (arith, nat_tests, mul-one u, mul-one m)
all_above p u m q qh lo xn high rest false hq hm hl hx e same all = grind (arith, nat_tests)

not_all_above : (p u m q qh lo xn high rest : ℕ) (t : Bool) → q ≡ 2 * p → m ≡ 2 * u → lo < p → xn < u → xn + u * bit t ≡ lo + p + qh → high ≢ rest → qh + 2 * q ≤ m → not (eqb high rest) ≡ (leb (m * bit t + p) (xn + u * bit t) || leb (xn + u * bit t + p + 1) (m * bit t))
not_all_above p u m q qh lo xn high rest true hq hm hl hx e other room = grind (arith, nat_tests, mul-one u, mul-one m)
not_all_above p u m q qh lo xn high rest false hq hm hl hx e other room = grind (arith, nat_tests)

above_step : (p u m q k lo xn high rest : ℕ) (r t : Bool) → q ≡ 2 * p → m ≡ 2 * u → m ≡ q * k → lo < p → xn < u → high < k → xn + u * bit t ≡ (lo + p * bit r) + q * high → rest + bit r ≡ k * bit r → not (eqb high rest) ≡ (leb (m * bit t + p) (xn + u * bit t) || leb (xn + u * bit t + p + 1) (m * bit t))
above_step p u m q k lo xn high rest false t hq hm hk hl hx hh e f =
    let none : rest ≡ 0 = omega (arith, f) in
    let room : q * high + q ≤ m = omega (arith, mul-le-mul_left q hh, mul-add q high 1, hk) in
    elim (cases_eq high rest) [
      | inl same ↦ none_above p u m q (q * high) lo xn high rest t hq hm hl hx (omega (arith, e)) same (times_zero q high (omega (arith, same, none))) (omega (arith, room))
      | inr other ↦ some_above p u m q (q * high) lo xn high rest t hq hm hl hx (omega (arith, e)) other (omega (arith, mul-le-mul_left q (positive high rest other none))) room
    ]
above_step p u m q k lo xn high rest true t hq hm hk hl hx hh e f =
    elim (cases_eq high rest) [
      | inl same ↦
          let whole : q * (high + 1) ≡ q * k = ap (λ z. q * z) (omega (arith, same, f)) in
          all_above p u m q (q * high) lo xn high rest t hq hm hl hx (omega (arith, e, mul-one p)) same (omega (arith, whole, mul-add q high 1, hk))
      | inr other ↦
          let more : high + 2 ≤ k = omega (arith, other, f, hh) in
          not_all_above p u m q (q * high) lo xn high rest t hq hm hl hx (omega (arith, e, mul-one p)) other (omega (arith, mul-le-mul_left q more, mul-add q high 2, mul_comm q 2, hk))
    ]

pub signed_overflows : (L M lo xn high rest : ℕ) (r t : Bool) → 0 < L → L < M → lo < 2 ^ (L - 1) → xn < 2 ^ (M - 1) → high < 2 ^ (M - L) → xn + 2 ^ (M - 1) * bit t ≡ (lo + 2 ^ (L - 1) * bit r) + 2 ^ L * high → rest + bit r ≡ 2 ^ (M - L) * bit r → not (eqb high rest) ≡ is_outside_signed L (signed M (xn + 2 ^ (M - 1) * bit t))
signed_overflows L M lo xn high rest r t some narrow hl hx hh e f =
    let split : 2 ^ M ≡ 2 ^ L * 2 ^ (M - L) = ap (λ k. 2 ^ k) (omega arith) ∙ pow-add 2 L (M - L) in
    above_step (2 ^ (L - 1)) (2 ^ (M - 1)) (2 ^ M) (2 ^ L) (2 ^ (M - L)) lo xn high rest r t (pow_half L some) (pow_half M (omega arith)) split hl hx hh e f
    ∙ sym (signed_outside L M xn t (omega arith) hx)
