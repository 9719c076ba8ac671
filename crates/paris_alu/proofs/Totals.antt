-- Sums, differences and opposites of whole fields.
use Rattle.std.proofs.Common.{◌≡◌, ℕ, ◌+◌, ◌-◌, ◌*◌, ◌^◌, ◌<◌, ◌+ℤ◌, ◌-ℤ◌, List, Bool, false, ◌&&◌, replicate, length, get_or, take, arith, ◌∙◌, sym, ap, subst, leb, ltb, eqb, refl}
use Rattle.std.specs.Simd.Lanes.{zip2}
use Rattle.std.proofs.lemmas.Simd.{get_or-zip2, length-zip2}
use Rattle.std.proofs.lemmas.List.{length-replicate}
use Rattle.paris_model.specs.declared.operators.Sign.{Sign}
use Rattle.paris_model.specs.declared.operators.Sign.TheVariants.{Unsigned, Signed}
use Rattle.paris_model.specs.declared.operators.BinaryOperator.TheVariants.{SignedAdd, SignedSubtract}
use Rattle.paris_model.specs.Store.{low, everywhere, signed, is_outside_signed}
use Rattle.paris_model.specs.Elementwise.{binary_result, binary_carry, binary_overflow}
use Rattle.paris_plane.specs.Bits.{zip3}
use Rattle.paris_field.specs.Numbers.{AllOf, bit_in, value_of_planes, number_at, plane_at, bits_everywhere}
use Rattle.paris_field.proofs.Numbers.{sum_mod, carry_is, below_two, zero_bit_in}
use Rattle.paris_field.proofs.Lists.{below_of}
use Rattle.paris_alu.specs.Alu.{sum_operator, difference_operator}
use Rattle.paris_alu.specs.Bits.{by_sign, sum_overflow_bit, difference_overflow_bit}
use Rattle.paris_field.proofs.Places.{Holds, field_is, plane_is, length_triple, get_triple}
use Rattle.paris_alu.proofs.Signs.{pow_half, sum_overflows, difference_overflows}
use Rattle.paris_alu.proofs.Results.{top_split, low_lt, difference_mod, difference_borrows, opposite_mod, opposite_overflows}

-- the numbers that planes hold fit their length
pub held_lt : {n L : ℕ} {f : ℕ → ℕ} {ps : List (List Bool)} → Holds n L f ps → (v : ℕ) → v < n → f v < 2 ^ L
held_lt {n} {L} {f} {ps} x v h = subst (λ z. z < 2 ^ L) (x.at v h) (below_of ps v L x.count)

-- and are their top bit and the rest
held_top : {n L : ℕ} {f : ℕ → ℕ} {ps : List (List Bool)} → Holds n L f ps → 0 < L → (v : ℕ) → v < n → f v ≡ number_at (take (L - 1) ps) v + 2 ^ (L - 1) * bit_in (plane_at ps (L - 1)) v
held_top {n} {L} {f} {ps} x some v h = sym (x.at v h) ∙ top_split ps L v some x.count

rest_lt : (L v : ℕ) (ps : List (List Bool)) → 0 < L → length ps ≡ L → number_at (take (L - 1) ps) v < 2 ^ (L - 1)
rest_lt L v ps some long = low_lt ps (L - 1) v (omega (arith, some, long))

top_long : {n L : ℕ} (ps : List (List Bool)) → AllOf n ps → 0 < L → length ps ≡ L → length (plane_at ps (L - 1)) ≡ n
top_long {n} {L} ps all some long = all (L - 1) (omega (arith, some, long))

-- what a loop of additions leaves
pub record Added (n L : ℕ) (f g : ℕ → ℕ) (before after : List Bool) (ss : List (List Bool)) : Type 0 where
  pub count : length ss ≡ L
  pub long : AllOf n ss
  pub carries : length after ≡ n
  pub exact : (v : ℕ) → v < n → number_at ss v + 2 ^ L * bit_in after v ≡ f v + g v + bit_in before v

pub sum_low : {n L : ℕ} {f g : ℕ → ℕ} {before after : List Bool} {ss : List (List Bool)} → Added n L f g before after ss → (v : ℕ) → v < n → number_at ss v ≡ low L (f v + g v + bit_in before v)
sum_low {n} {L} {f} {g} {before} {after} {ss} a v h = sum_mod (number_at ss v) (2 ^ L) (bit_in after v) (f v + g v + bit_in before v) (below_of ss v L a.count) (a.exact v h)

pub sum_carries : {n L : ℕ} {f g : ℕ → ℕ} {before after : List Bool} {ss : List (List Bool)} → Added n L f g before after ss → (v : ℕ) → v < n → f v < 2 ^ L → g v < 2 ^ L → get_or after v false ≡ leb (2 ^ L) (f v + g v + bit_in before v)
sum_carries {n} {L} {f} {g} {before} {after} {ss} a v h hf hg = carry_is (number_at ss v) (2 ^ L) (f v + g v + bit_in before v) (get_or after v false) (below_of ss v L a.count) (a.exact v h) (omega (arith, hf, hg, below_two (get_or before v false)))

-- what a loop of subtractions leaves
pub record Taken (n L : ℕ) (f g : ℕ → ℕ) (after : List Bool) (ds : List (List Bool)) : Type 0 where
  pub count : length ds ≡ L
  pub long : AllOf n ds
  pub borrows : length after ≡ n
  pub exact : (v : ℕ) → v < n → f v + 2 ^ L * bit_in after v ≡ number_at ds v + g v

sum_is : (sign : Sign) (L x y : ℕ) → binary_result (sum_operator sign) L x y 0 0 ≡ x + y
sum_is Unsigned L x y = refl
sum_is Signed L x y = refl

sum_carry_is : (sign : Sign) (L x y : ℕ) → binary_carry (sum_operator sign) L x y 0 ≡ leb (2 ^ L) (x + y)
sum_carry_is Unsigned L x y = refl
sum_carry_is Signed L x y = refl

difference_is : (sign : Sign) (L x y : ℕ) → binary_result (difference_operator sign) L x y 0 0 ≡ x + (2 ^ L - y)
difference_is Unsigned L x y = refl
difference_is Signed L x y = refl

difference_carry_is : (sign : Sign) (L x y : ℕ) → binary_carry (difference_operator sign) L x y 0 ≡ ltb x y
difference_carry_is Unsigned L x y = refl
difference_carry_is Signed L x y = refl

none_before : (x n v : ℕ) (before : List Bool) → before ≡ replicate n false → x + bit_in before v ≡ x
none_before x n v before none = omega (arith, ap (λ l. bit_in l v) none, zero_bit_in n v)

-- the sums
pub sum_field : (sign : Sign) (n L : ℕ) (f g : ℕ → ℕ) (before after : List Bool) (ss : List (List Bool)) → before ≡ replicate n false → Added n L f g before after ss → value_of_planes n ss ≡ record { width = L; numbers = everywhere n (λ v. low L (binary_result (sum_operator sign) L (f v) (g v) 0 0)) }
sum_field sign n L f g before after ss none a =
    field_is n L ss (λ v. low L (binary_result (sum_operator sign) L (f v) (g v) 0 0)) a.count (λ v h.
    sum_low a v h ∙ ap (low L) (none_before (f v + g v) n v before none ∙ sym (sum_is sign L (f v) (g v))))

pub sum_carry : (sign : Sign) (n L : ℕ) (f g : ℕ → ℕ) (before after : List Bool) (xs ys ss : List (List Bool)) → before ≡ replicate n false → Holds n L f xs → Holds n L g ys → Added n L f g before after ss → after ≡ bits_everywhere n (λ v. binary_carry (sum_operator sign) L (f v) (g v) 0)
sum_carry sign n L f g before after xs ys ss none x y a =
    plane_is after n (λ v. binary_carry (sum_operator sign) L (f v) (g v) 0) a.carries (λ v h.
    sum_carries a v h (held_lt x v h) (held_lt y v h) ∙ ap (leb (2 ^ L)) (none_before (f v + g v) n v before none) ∙ sym (sum_carry_is sign L (f v) (g v)))

signed_sum_at : {n L : ℕ} {f g : ℕ → ℕ} {before after : List Bool} {xs ys ss : List (List Bool)} → 0 < L → before ≡ replicate n false → Holds n L f xs → Holds n L g ys → Added n L f g before after ss → (v : ℕ) → v < n → sum_overflow_bit (get_or (plane_at ss (L - 1)) v false) (get_or (plane_at xs (L - 1)) v false) (get_or (plane_at ys (L - 1)) v false) ≡ is_outside_signed L (signed L (f v) +ℤ signed L (g v))
signed_sum_at {n} {L} {f} {g} {before} {after} {xs} {ys} {ss} some none x y a v h =
    let fx = held_top x some v h in
    let gy = held_top y some v h in
    let e : (number_at (take (L - 1) ss) v + 2 ^ (L - 1) * bit_in (plane_at ss (L - 1)) v) + 2 ^ L * bit_in after v ≡ (number_at (take (L - 1) xs) v + 2 ^ (L - 1) * bit_in (plane_at xs (L - 1)) v) + (number_at (take (L - 1) ys) v + 2 ^ (L - 1) * bit_in (plane_at ys (L - 1)) v) =
    omega (arith, fx, gy, top_split ss L v some a.count, a.exact v h, none_before (f v + g v) n v before none) in
    sum_overflows L (number_at (take (L - 1) xs) v) (number_at (take (L - 1) ys) v) (number_at (take (L - 1) ss) v) (get_or (plane_at xs (L - 1)) v false) (get_or (plane_at ys (L - 1)) v false) (get_or (plane_at ss (L - 1)) v false) (get_or after v false) some (rest_lt L v xs some x.count) (rest_lt L v ys some y.count) (rest_lt L v ss some a.count) e
    ∙ ap (λ z. is_outside_signed L (signed L z +ℤ signed L (number_at (take (L - 1) ys) v + 2 ^ (L - 1) * bit_in (plane_at ys (L - 1)) v))) (sym fx)
    ∙ ap (λ z. is_outside_signed L (signed L (f v) +ℤ signed L z)) (sym gy)

pub sum_overflow : (sign : Sign) (n L : ℕ) (f g : ℕ → ℕ) (before after : List Bool) (xs ys ss : List (List Bool)) (s x y plane : List Bool) → 0 < L → before ≡ replicate n false → Holds n L f xs → Holds n L g ys → Added n L f g before after ss → s ≡ plane_at ss (L - 1) → x ≡ plane_at xs (L - 1) → y ≡ plane_at ys (L - 1) → plane ≡ by_sign sign after (zip3 sum_overflow_bit s x y) → plane ≡ bits_everywhere n (λ v. binary_overflow (sum_operator sign) L (f v) (g v) 0)
sum_overflow Unsigned n L f g before after xs ys ss s x y plane some none hx hy a es ex ey is = is ∙ sum_carry Unsigned n L f g before after xs ys ss none hx hy a
sum_overflow Signed n L f g before after xs ys ss s x y plane some none hx hy a es ex ey is =
    let ls : length s ≡ n = ap length es ∙ top_long ss a.long some a.count in
    let lx : length x ≡ n = ap length ex ∙ top_long xs hx.long some hx.count in
    let ly : length y ≡ n = ap length ey ∙ top_long ys hy.long some hy.count in
    plane_is plane n (λ v. binary_overflow SignedAdd L (f v) (g v) 0) (ap length is ∙ length_triple sum_overflow_bit s x y ls lx ly) (λ v h.
    ap (λ l. get_or l v false) is ∙ get_triple sum_overflow_bit s x y v ls lx ly h
    ∙ ap (λ p. sum_overflow_bit (get_or p v false) (get_or x v false) (get_or y v false)) es
    ∙ ap (λ p. sum_overflow_bit (get_or (plane_at ss (L - 1)) v false) (get_or p v false) (get_or y v false)) ex
    ∙ ap (λ p. sum_overflow_bit (get_or (plane_at ss (L - 1)) v false) (get_or (plane_at xs (L - 1)) v false) (get_or p v false)) ey
    ∙ signed_sum_at some none hx hy a v h)

-- the sums with a carried bit
pub carried_field : (n L : ℕ) (f g : ℕ → ℕ) (before after : List Bool) (ss : List (List Bool)) → Added n L f g before after ss → value_of_planes n ss ≡ record { width = L; numbers = everywhere n (λ v. low L (f v + g v + bit_in before v)) }
carried_field n L f g before after ss a = field_is n L ss (λ v. low L (f v + g v + bit_in before v)) a.count (λ v h. sum_low a v h)

pub carried_plane : (n L : ℕ) (f g : ℕ → ℕ) (before after : List Bool) (xs ys ss : List (List Bool)) → Holds n L f xs → Holds n L g ys → Added n L f g before after ss → after ≡ bits_everywhere n (λ v. leb (2 ^ L) (f v + g v + bit_in before v))
carried_plane n L f g before after xs ys ss x y a = plane_is after n (λ v. leb (2 ^ L) (f v + g v + bit_in before v)) a.carries (λ v h. sum_carries a v h (held_lt x v h) (held_lt y v h))

-- the differences
pub difference_field : (sign : Sign) (n L : ℕ) (f g : ℕ → ℕ) (after : List Bool) (xs ys ds : List (List Bool)) → Holds n L f xs → Holds n L g ys → Taken n L f g after ds → value_of_planes n ds ≡ record { width = L; numbers = everywhere n (λ v. low L (binary_result (difference_operator sign) L (f v) (g v) 0 0)) }
difference_field sign n L f g after xs ys ds x y a =
    field_is n L ds (λ v. low L (binary_result (difference_operator sign) L (f v) (g v) 0 0)) a.count (λ v h.
    difference_mod (2 ^ L) (number_at ds v) (f v) (g v) (get_or after v false) (below_of ds v L a.count) (held_lt x v h) (held_lt y v h) (a.exact v h)
    ∙ ap (low L) (sym (difference_is sign L (f v) (g v))))

pub difference_carry : (sign : Sign) (n L : ℕ) (f g : ℕ → ℕ) (after : List Bool) (xs ys ds : List (List Bool)) → Holds n L f xs → Holds n L g ys → Taken n L f g after ds → after ≡ bits_everywhere n (λ v. binary_carry (difference_operator sign) L (f v) (g v) 0)
difference_carry sign n L f g after xs ys ds x y a =
    plane_is after n (λ v. binary_carry (difference_operator sign) L (f v) (g v) 0) a.borrows (λ v h.
    difference_borrows (2 ^ L) (number_at ds v) (f v) (g v) (get_or after v false) (below_of ds v L a.count) (held_lt x v h) (held_lt y v h) (a.exact v h)
    ∙ sym (difference_carry_is sign L (f v) (g v)))

signed_difference_at : {n L : ℕ} {f g : ℕ → ℕ} {after : List Bool} {xs ys ds : List (List Bool)} → 0 < L → Holds n L f xs → Holds n L g ys → Taken n L f g after ds → (v : ℕ) → v < n → difference_overflow_bit (get_or (plane_at ds (L - 1)) v false) (get_or (plane_at xs (L - 1)) v false) (get_or (plane_at ys (L - 1)) v false) ≡ is_outside_signed L (signed L (f v) -ℤ signed L (g v))
signed_difference_at {n} {L} {f} {g} {after} {xs} {ys} {ds} some x y a v h =
    let fx = held_top x some v h in
    let gy = held_top y some v h in
    let e : (number_at (take (L - 1) xs) v + 2 ^ (L - 1) * bit_in (plane_at xs (L - 1)) v) + 2 ^ L * bit_in after v ≡ (number_at (take (L - 1) ds) v + 2 ^ (L - 1) * bit_in (plane_at ds (L - 1)) v) + (number_at (take (L - 1) ys) v + 2 ^ (L - 1) * bit_in (plane_at ys (L - 1)) v) =
    omega (arith, fx, gy, top_split ds L v some a.count, a.exact v h) in
    difference_overflows L (number_at (take (L - 1) xs) v) (number_at (take (L - 1) ys) v) (number_at (take (L - 1) ds) v) (get_or (plane_at xs (L - 1)) v false) (get_or (plane_at ys (L - 1)) v false) (get_or (plane_at ds (L - 1)) v false) (get_or after v false) some (rest_lt L v xs some x.count) (rest_lt L v ys some y.count) (rest_lt L v ds some a.count) e
    ∙ ap (λ z. is_outside_signed L (signed L z -ℤ signed L (number_at (take (L - 1) ys) v + 2 ^ (L - 1) * bit_in (plane_at ys (L - 1)) v))) (sym fx)
    ∙ ap (λ z. is_outside_signed L (signed L (f v) -ℤ signed L z)) (sym gy)

pub difference_overflow : (sign : Sign) (n L : ℕ) (f g : ℕ → ℕ) (after : List Bool) (xs ys ds : List (List Bool)) (d x y plane : List Bool) → 0 < L → Holds n L f xs → Holds n L g ys → Taken n L f g after ds → d ≡ plane_at ds (L - 1) → x ≡ plane_at xs (L - 1) → y ≡ plane_at ys (L - 1) → plane ≡ by_sign sign after (zip3 difference_overflow_bit d x y) → plane ≡ bits_everywhere n (λ v. binary_overflow (difference_operator sign) L (f v) (g v) 0)
difference_overflow Unsigned n L f g after xs ys ds d x y plane some hx hy a ed ex ey is = is ∙ difference_carry Unsigned n L f g after xs ys ds hx hy a
difference_overflow Signed n L f g after xs ys ds d x y plane some hx hy a ed ex ey is =
    let ld : length d ≡ n = ap length ed ∙ top_long ds a.long some a.count in
    let lx : length x ≡ n = ap length ex ∙ top_long xs hx.long some hx.count in
    let ly : length y ≡ n = ap length ey ∙ top_long ys hy.long some hy.count in
    plane_is plane n (λ v. binary_overflow SignedSubtract L (f v) (g v) 0) (ap length is ∙ length_triple difference_overflow_bit d x y ld lx ly) (λ v h.
    ap (λ l. get_or l v false) is ∙ get_triple difference_overflow_bit d x y v ld lx ly h
    ∙ ap (λ p. difference_overflow_bit (get_or p v false) (get_or x v false) (get_or y v false)) ed
    ∙ ap (λ p. difference_overflow_bit (get_or (plane_at ds (L - 1)) v false) (get_or p v false) (get_or y v false)) ex
    ∙ ap (λ p. difference_overflow_bit (get_or (plane_at ds (L - 1)) v false) (get_or (plane_at xs (L - 1)) v false) (get_or p v false)) ey
    ∙ signed_difference_at some hx hy a v h)

-- what a loop of opposites leaves
pub record Opposed (n L : ℕ) (f : ℕ → ℕ) (after : List Bool) (ds : List (List Bool)) : Type 0 where
  pub count : length ds ≡ L
  pub long : AllOf n ds
  pub exact : (v : ℕ) → v < n → 2 ^ L * bit_in after v ≡ number_at ds v + f v

pub opposite_field : (n L : ℕ) (f : ℕ → ℕ) (after : List Bool) (xs ds : List (List Bool)) → Holds n L f xs → Opposed n L f after ds → value_of_planes n ds ≡ record { width = L; numbers = everywhere n (λ v. low L (2 ^ L - f v)) }
opposite_field n L f after xs ds x a =
    field_is n L ds (λ v. low L (2 ^ L - f v)) a.count (λ v h. opposite_mod (2 ^ L) (number_at ds v) (f v) (get_or after v false) (below_of ds v L a.count) (held_lt x v h) (a.exact v h))

pub opposite_overflow : (n L : ℕ) (f : ℕ → ℕ) (after : List Bool) (xs ds : List (List Bool)) (d x plane : List Bool) → 0 < L → Holds n L f xs → Opposed n L f after ds → d ≡ plane_at ds (L - 1) → x ≡ plane_at xs (L - 1) → plane ≡ zip2 (λ p q. p && q) d x → plane ≡ bits_everywhere n (λ v. eqb (f v) (2 ^ (L - 1)))
opposite_overflow n L f after xs ds d x plane some hx a ed ex is =
    let ld : length d ≡ n = ap length ed ∙ top_long ds a.long some a.count in
    let lx : length x ≡ n = ap length ex ∙ top_long xs hx.long some hx.count in
    plane_is plane n (λ v. eqb (f v) (2 ^ (L - 1))) (ap length is ∙ length-zip2 (λ p q. p && q) d x (ld ∙ sym lx) ∙ ld) (λ v h.
    let fx = held_top hx some v h in
    let e : 2 ^ L * bit_in after v ≡ (number_at (take (L - 1) ds) v + 2 ^ (L - 1) * bit_in (plane_at ds (L - 1)) v) + (number_at (take (L - 1) xs) v + 2 ^ (L - 1) * bit_in (plane_at xs (L - 1)) v) =
    omega (arith, fx, top_split ds L v some a.count, a.exact v h) in
    ap (λ l. get_or l v false) is ∙ get_or-zip2 (λ p q. p && q) d x v false false false (omega (arith, ld)) (omega (arith, lx))
    ∙ ap (λ p. get_or p v false && get_or x v false) ed ∙ ap (λ p. get_or (plane_at ds (L - 1)) v false && get_or p v false) ex
    ∙ opposite_overflows (2 ^ (L - 1)) (2 ^ L) (number_at (take (L - 1) xs) v) (number_at (take (L - 1) ds) v) (get_or (plane_at xs (L - 1)) v false) (get_or (plane_at ds (L - 1)) v false) (get_or after v false) (pow_half L some) (rest_lt L v xs some hx.count) (rest_lt L v ds some a.count) e
    ∙ ap (λ z. eqb z (2 ^ (L - 1))) (sym fx))

-- what the loops ensure
pub added : (n L : ℕ) (f g : ℕ → ℕ) (before after : List Bool) (xs ys ss : List (List Bool)) → Holds n L f xs → Holds n L g ys → length before ≡ n → length after ≡ length before → length ss ≡ length xs → AllOf (length before) ss → ((v : ℕ) → v < length before → number_at ss v + 2 ^ length xs * bit_in after v ≡ number_at xs v + number_at ys v + bit_in before v) → Added n L f g before after ss
added n L f g before after xs ys ss x y nb carries count long exact =
    record {
      count = count ∙ x.count;
      long = λ k h. long k h ∙ nb;
      carries = carries ∙ nb;
      exact = λ v h.
          ap (λ k. number_at ss v + 2 ^ k * bit_in after v) (sym x.count) ∙ exact v (omega (arith, nb))
          ∙ ap (λ t. t + number_at ys v + bit_in before v) (x.at v h) ∙ ap (λ t. f v + t + bit_in before v) (y.at v h);
    }

pub taken : (n L : ℕ) (f g : ℕ → ℕ) (before after : List Bool) (xs ys ds : List (List Bool)) → Holds n L f xs → Holds n L g ys → before ≡ replicate n false → length after ≡ length before → length ds ≡ length xs → AllOf (length before) ds → ((v : ℕ) → v < length before → number_at xs v + 2 ^ length xs * bit_in after v ≡ number_at ds v + number_at ys v + bit_in before v) → Taken n L f g after ds
taken n L f g before after xs ys ds x y none borrows count long exact =
    let nb : length before ≡ n = ap length none ∙ length-replicate n false in
    record {
      count = count ∙ x.count;
      long = λ k h. long k h ∙ nb;
      borrows = borrows ∙ nb;
      exact = λ v h.
          ap (λ t. t + 2 ^ L * bit_in after v) (sym (x.at v h)) ∙ ap (λ k. number_at xs v + 2 ^ k * bit_in after v) (sym x.count)
          ∙ exact v (omega (arith, nb)) ∙ none_before (number_at ds v + number_at ys v) n v before none ∙ ap (λ t. number_at ds v + t) (y.at v h);
    }

pub opposed : (n L : ℕ) (f : ℕ → ℕ) (before after : List Bool) (xs ds : List (List Bool)) → Holds n L f xs → before ≡ replicate n false → length ds ≡ length xs → AllOf (length before) ds → ((v : ℕ) → v < length before → 2 ^ length xs * bit_in after v ≡ number_at ds v + number_at xs v + bit_in before v) → Opposed n L f after ds
opposed n L f before after xs ds x none count long exact =
    let nb : length before ≡ n = ap length none ∙ length-replicate n false in
    record {
      count = count ∙ x.count;
      long = λ k h. long k h ∙ nb;
      exact = λ v h.
          ap (λ k. 2 ^ k * bit_in after v) (sym x.count) ∙ exact v (omega (arith, nb)) ∙ none_before (number_at ds v + number_at xs v) n v before none
          ∙ ap (λ t. number_at ds v + t) (x.at v h);
    }
