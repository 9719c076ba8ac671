-- Signed products on planes, from unsigned ones of the absolute values.
use Rattle.std.proofs.Common.{◌≡◌, ℕ, zero, suc, ◌+◌, ◌-◌, ◌*◌, ◌/◌, ◌%◌, ◌^◌, ◌<◌, pos, negsuc, ◌*ℤ◌, List, Bool, true, false, not, cond, ◌&&◌, ◌||◌, length, map, get_or, refl, arith, ◌∙◌, sym, ap, leb, ltb, eqb, inl, inr, mul-one}
use Rattle.std.specs.Prelude.{unsigned_abs}
use Rattle.std.proofs.Math.Nat.{mod-eq_of_lt, mod-mod, mod_self, add-mod-mod}
use Rattle.std.proofs.lemmas.Bool.{cases_lt}
use Rattle.std.proofs.lemmas.Bool.Decides.{nat_tests}
use Rattle.std.proofs.lemmas.List.{length-map, get_or-map}
use Rattle.std.proofs.lemmas.List.FromFn.{length-map-range_with_len, get_or-map-range_with_len}
use Rattle.std.proofs.lemmas.Simd.{get_or-zip2, length-zip2}
use Rattle.std.specs.Simd.Lanes.{zip2}
use Rattle.std.proofs.lemmas.Nat.{div-add-mod', mod-mul-add, mod_below, pow_pos}
use Rattle.paris_model.specs.declared.operators.BinaryOperator.TheVariants.{SignedMultiply, UnsignedMultiply}
use Rattle.paris_model.specs.declared.operators.UnaryOperator.TheVariants.{Negate}
use Rattle.paris_model.specs.Store.{bit, everywhere, low, low_signed, put, signed, is_outside_signed, stored}
use Rattle.paris_plane.specs.Bits.{differ}
use Rattle.paris_field.specs.Fields.{FieldNumbers, operand}
use Rattle.paris_field.specs.Numbers.{bit_in, bits_everywhere, has, number_at}
use Rattle.paris_field.proofs.Places.{bits_same, everywhere_same, get_or-bits_everywhere, length-bits_everywhere, plane_is}
use Rattle.paris_alu.specs.Alu.{binary_field, overflow_plane, unary_field, unary_overflow_plane}
use Rattle.paris_alu.proofs.Signs.{pow_half}
use Rattle.paris_muldiv.specs.Products.{absolute_field, least_plane, opposite_field, unlike_plane}
use Rattle.paris_muldiv.proofs.Signs.{alike_of, unlike_of, sign_is, product_alike, product_unlike, opposite_low, outside_unlike, unlike_signs}

-- a value by its two parts
made : ℕ → List ℕ → FieldNumbers
made width list = record { width = width; numbers = list }

-- the top bit of the low bits
under_two : (h r b : ℕ) → r < h → b < 2 → r + h * b < 2 * h
under_two h r zero hr hb = omega arith
under_two h r (suc zero) hr hb = omega (arith, mul-one h)
under_two h r (suc (suc b)) hr hb = absurd (omega (arith, hb))

low_top : (h n : ℕ) → 0 < h → n % (2 * h) ≡ n % h + h * (n / h % 2)
low_top h n some =
    let halves : n / h ≡ n / h / 2 * 2 + n / h % 2 = omega arith in
    let split : n ≡ n / h / 2 * (2 * h) + (n % h + h * (n / h % 2)) = omega (arith, div-add-mod' n h, ap (λ t. t * h) halves) in
    let below : n % h + h * (n / h % 2) < 2 * h = under_two h (n % h) (n / h % 2) (mod_below n h some) (omega arith) in
    ap (λ t. t % (2 * h)) split ∙ mod-mul-add (n / h / 2) (2 * h) (n % h + h * (n / h % 2)) below

top_is : (h r : ℕ) (b : Bool) → r < h → leb h (r + h * bit b) ≡ b
top_is h r true below = grind (arith, nat_tests, mul-one h)
top_is h r false below = grind (arith, nat_tests)

pub top_of_low : (L n : ℕ) (b : Bool) → 0 < L → bit b ≡ n / 2 ^ (L - 1) % 2 → b ≡ leb (2 ^ (L - 1)) (n % 2 ^ L)
top_of_low L n b some is =
    let h : ℕ = 2 ^ (L - 1) in
    sym (top_is h (n % h) b (mod_below n h (pow_pos (L - 1))))
    ∙ ap (λ t. leb h (n % h + h * t)) is
    ∙ ap (leb h) (sym (low_top h n (pow_pos (L - 1))))
    ∙ ap (λ m. leb h (n % m)) (sym (pow_half L some))

-- an absolute value: the opposite where the top bit is 1
absolute_by_test : (b : Bool) (x y : ℕ) → unsigned_abs (cond b (pos x) (negsuc y)) ≡ cond b x (suc y)
absolute_by_test true x y = refl
absolute_by_test false x y = refl

absolute_of : (h m x : ℕ) (b : Bool) → 0 < h → x < m → b ≡ leb h x → cond b (m - x) x % m ≡ cond (ltb x h) x (suc (m - 1 - x))
absolute_of h m x true some below is =
    let less : m - x < m = grind (arith, nat_tests) in
    mod-eq_of_lt less ∙ grind (arith, nat_tests)
absolute_of h m x false some below is = mod-eq_of_lt below ∙ grind (arith, nat_tests)

pub turned_absolute : (L x : ℕ) (b : Bool) → x < 2 ^ L → b ≡ leb (2 ^ (L - 1)) x → low L (cond b (2 ^ L - x) x) ≡ unsigned_abs (signed L x)
turned_absolute L x b below is =
    absolute_of (2 ^ (L - 1)) (2 ^ L) x b (pow_pos (L - 1)) below is ∙ sym (absolute_by_test (ltb x (2 ^ (L - 1))) x (2 ^ L - 1 - x))

-- the low bits of a signed product
comes_to_none : (m p : ℕ) → 0 < m → (m - p % m + p) % m ≡ 0
comes_to_none m p some =
    let below : p % m < m = mod_below p m some in
    sym (add-mod-mod (m - p % m) p m) ∙ ap (λ t. t % m) (omega (arith, below)) ∙ mod_self m

value_at : (L x y : ℕ) (b : Bool) → b ≡ differ (leb (2 ^ (L - 1)) x) (leb (2 ^ (L - 1)) y) → low L (cond b (2 ^ L - low L (unsigned_abs (signed L x) * unsigned_abs (signed L y))) (low L (unsigned_abs (signed L x) * unsigned_abs (signed L y)))) ≡ low L (low_signed L (signed L x *ℤ signed L y))
value_at L x y true signs =
    let p : ℕ = unsigned_abs (signed L x) * unsigned_abs (signed L y) in
    opposite_low L (2 ^ L - p % 2 ^ L) p (comes_to_none (2 ^ L) p (pow_pos L))
    ∙ sym (ap (λ z. low L (low_signed L z)) (product_unlike (signed L x) (signed L y) (unlike_signs L x y (unlike_of _ _ signs))))
value_at L x y false signs =
    sym (ap (λ z. low L (low_signed L z)) (product_alike (signed L x) (signed L y) (sign_is L x ∙ alike_of _ _ signs ∙ sym (sign_is L y))))

-- where a signed product overflows
over_alike : (h m p r : ℕ) → m ≡ 2 * h → (p < m → r ≡ p) → (leb m p || leb h r && not (false && eqb r h)) ≡ leb h p
over_alike h m p r half small =
    elim (cases_lt p m) [
      | inl below ↦ let e : r ≡ p = small below in grind (arith, nat_tests, e)
      | inr above ↦ grind (arith, nat_tests, above)
    ]

over_unlike : (h m p r : ℕ) → 0 < h → m ≡ 2 * h → (p < m → r ≡ p) → (leb m p || leb h r && not (true && eqb r h)) ≡ leb (h + 1) p
over_unlike h m p r some half small =
    elim (cases_lt p m) [
      | inl below ↦ let e : r ≡ p = small below in grind (arith, nat_tests, e)
      | inr above ↦ grind (arith, nat_tests, above)
    ]

overflow_at : (L x y r : ℕ) (b : Bool) → 0 < L → b ≡ differ (leb (2 ^ (L - 1)) x) (leb (2 ^ (L - 1)) y) → r ≡ low L (unsigned_abs (signed L x) * unsigned_abs (signed L y)) → (leb (2 ^ L) (unsigned_abs (signed L x) * unsigned_abs (signed L y)) || leb (2 ^ (L - 1)) r && not (b && eqb r (2 ^ (L - 1)))) ≡ is_outside_signed L (signed L x *ℤ signed L y)
overflow_at L x y r true some signs is =
    let p : ℕ = unsigned_abs (signed L x) * unsigned_abs (signed L y) in
    over_unlike (2 ^ (L - 1)) (2 ^ L) p r (pow_pos (L - 1)) (pow_half L some) (λ h. is ∙ mod-eq_of_lt h)
    ∙ outside_unlike L p
    ∙ sym (ap (is_outside_signed L) (product_unlike (signed L x) (signed L y) (unlike_signs L x y (unlike_of _ _ signs))))
overflow_at L x y r false some signs is =
    let p : ℕ = unsigned_abs (signed L x) * unsigned_abs (signed L y) in
    over_alike (2 ^ (L - 1)) (2 ^ L) p r (pow_half L some) (λ h. is ∙ mod-eq_of_lt h)
    ∙ sym (ap (is_outside_signed L) (product_alike (signed L x) (signed L y) (sign_is L x ∙ alike_of _ _ signs ∙ sym (sign_is L y))))

-- what a merge puts into the low bits of numbers of as many
put_low : (L a x : ℕ) → put (low L a) x L ≡ low L x
put_low L a x = omega (arith, mod-mod a (2 ^ L))

merged : (k m : Bool) (L a n x : ℕ) → k ≡ not m → x ≡ low L n → cond k (put (low L a) x L) (low L a) ≡ low L (cond m a x)
merged k true L a n x is e = ap (λ b. cond b (put (low L a) x L) (low L a)) is
merged k false L a n x is e = ap (λ b. cond b (put (low L a) x L) (low L a)) is ∙ put_low L a x

-- the lengths of numbers with the other sign
pub opposite_count : (L : ℕ) (x o : FieldNumbers) → o ≡ unary_field Negate L x → length o.numbers ≡ length x.numbers
opposite_count L x o is = ap (λ (f : FieldNumbers). length f.numbers) is ∙ length-map-range_with_len _ 0 (length x.numbers)

pub opposites_long : (L : ℕ) (x : FieldNumbers) (o : List Bool) → o ≡ unary_overflow_plane Negate L x → length o ≡ length x.numbers
opposites_long L x o is = ap length is ∙ length-bits_everywhere (length x.numbers) _

pub least_long : (L : ℕ) (x : FieldNumbers) (mask a : List Bool) → a ≡ least_plane L mask x → length a ≡ length x.numbers
least_long L x mask a is = ap length is ∙ length-bits_everywhere (length x.numbers) _

-- the low bits of a field, with the other sign where a mask is 1
pub opposite_is : (L : ℕ) (x o new : FieldNumbers) (mask kept : List Bool) (planes : List (List Bool)) → length mask ≡ length x.numbers → kept ≡ map not mask → o ≡ unary_field Negate L x → new.width ≡ o.width → new.numbers ≡ stored (length o.numbers) (λ v. get_or kept v false) (λ v. get_or o.numbers v 0) L (number_at planes) → ((v : ℕ) → v < length x.numbers → number_at planes v ≡ low L (get_or x.numbers v 0)) → new ≡ opposite_field L mask x
unfolding made
opposite_is L x o new mask kept planes long turned negated wide numbers at =
    let n : ℕ = length x.numbers in
    let count : length o.numbers ≡ n = opposite_count L x o negated in
    let width : new.width ≡ L = wide ∙ ap (λ (f : FieldNumbers). f.width) negated in
    ap (λ w. made w new.numbers) width
    ∙ ap (made L) (numbers
    ∙ ap (λ m. stored m (λ v. get_or kept v false) (λ v. get_or o.numbers v 0) L (number_at planes)) count
    ∙ everywhere_same n _ (λ v. low L (cond (get_or mask v false) (2 ^ L - operand L x v) (operand L x v))) (λ v h.
    let old : get_or o.numbers v 0 ≡ low L (2 ^ L - operand L x v) =
    ap (λ (f : FieldNumbers). get_or f.numbers v 0) negated ∙ get_or-map-range_with_len _ 0 n v v 0 h (omega arith) in
    let keeps : get_or kept v false ≡ not (get_or mask v false) =
    ap (λ l. get_or l v false) turned ∙ get_or-map not mask v false false (omega (arith, h, long)) in
    ap (λ a. cond (get_or kept v false) (put a (number_at planes v) L) a) old
    ∙ ap (λ b. cond (get_or kept v false) (put (low L (2 ^ L - operand L x v)) b L) (low L (2 ^ L - operand L x v))) (at v h)
    ∙ merged (get_or kept v false) (get_or mask v false) L (2 ^ L - operand L x v) (get_or x.numbers v 0) (operand L x v) keeps refl))

-- the absolute values of a field, by its top plane
pub absolute_is : (L : ℕ) (x : FieldNumbers) (top : List Bool) → 0 < L → ((v : ℕ) → v < length x.numbers → bit_in top v ≡ get_or x.numbers v 0 / 2 ^ (L - 1) % 2) → opposite_field L top x ≡ absolute_field L x
unfolding made
absolute_is L x top some at =
    ap (made L) (everywhere_same (length x.numbers) _ _ (λ v h.
    turned_absolute L (operand L x v) (get_or top v false) (mod_below (get_or x.numbers v 0) (2 ^ L) (pow_pos L)) (top_of_low L (get_or x.numbers v 0) (get_or top v false) some (at v h))))

-- the operations on whole planes
and_turned : (a b : Bool) → (a && b) ≡ (b && a)
and_turned true true = refl
and_turned true false = refl
and_turned false true = refl
and_turned false false = refl

or_turned : (w t x : Bool) → (not x && t || w) ≡ (w || t && not x)
or_turned true t true = refl
or_turned false true true = refl
or_turned false false true = refl
or_turned true true false = refl
or_turned true false false = refl
or_turned false true false = refl
or_turned false false false = refl

pub least_is : (L : ℕ) (x : FieldNumbers) (mask o a : List Bool) → length mask ≡ length x.numbers → o ≡ unary_overflow_plane Negate L x → a ≡ zip2 (λ a b. a && b) o mask → a ≡ least_plane L mask x
least_is L x mask o a long negated is =
    let n : ℕ = length x.numbers in
    let and : Bool → Bool → Bool = λ a b. a && b in
    let count : length o ≡ n = opposites_long L x o negated in
    plane_is a n _ (ap length is ∙ length-zip2 and o mask (count ∙ sym long) ∙ count) (λ v h.
    ap (λ l. get_or l v false) is
    ∙ get_or-zip2 and o mask v false false false (omega (arith, h, count)) (omega (arith, h, long))
    ∙ and_turned (get_or o v false) (get_or mask v false)
    ∙ ap (λ b. get_or mask v false && b) (ap (λ l. get_or l v false) negated ∙ get_or-bits_everywhere n _ v h))

pub unlike_is : (L : ℕ) (x y : FieldNumbers) (a b u : List Bool) → 0 < L → length x.numbers ≡ length y.numbers → length a ≡ length x.numbers → length b ≡ length y.numbers → ((v : ℕ) → v < length x.numbers → bit_in a v ≡ get_or x.numbers v 0 / 2 ^ (L - 1) % 2) → ((v : ℕ) → v < length y.numbers → bit_in b v ≡ get_or y.numbers v 0 / 2 ^ (L - 1) % 2) → u ≡ zip2 differ a b → u ≡ unlike_plane L x y
unlike_is L x y a b u some same la lb at_a at_b is =
    let n : ℕ = length x.numbers in
    let h : ℕ = 2 ^ (L - 1) in
    plane_is u n _ (ap length is ∙ length-zip2 differ a b (la ∙ same ∙ sym lb) ∙ la) (λ v within.
    ap (λ l. get_or l v false) is
    ∙ get_or-zip2 differ a b v false false false (omega (arith, within, la)) (omega (arith, within, same, lb))
    ∙ ap (λ t. differ t (get_or b v false)) (top_of_low L (get_or x.numbers v 0) (get_or a v false) some (at_a v within))
    ∙ ap (differ (leb h (operand L x v))) (top_of_low L (get_or y.numbers v 0) (get_or b v false) some (at_b v (omega (arith, within, same)))))

pub put_where : (wide top least a b c : List Bool) → length wide ≡ length least → length top ≡ length least → a ≡ map not least → b ≡ zip2 (λ a b. a && b) a top → c ≡ zip2 (λ a b. a || b) b wide → c ≡ bits_everywhere (length least) (λ v. has wide v || has top v && not (has least v))
put_where wide top least a b c lw lt ea eb ec =
    let n : ℕ = length least in
    let and : Bool → Bool → Bool = λ a b. a && b in
    let or : Bool → Bool → Bool = λ a b. a || b in
    let la : length a ≡ n = ap length ea ∙ length-map least not in
    let lb : length b ≡ n = ap length eb ∙ length-zip2 and a top (la ∙ sym lt) ∙ la in
    plane_is c n _ (ap length ec ∙ length-zip2 or b wide (lb ∙ sym lw) ∙ lb) (λ v h.
    ap (λ l. get_or l v false) ec
    ∙ get_or-zip2 or b wide v false false false (omega (arith, h, lb)) (omega (arith, h, lw))
    ∙ ap (λ t. t || get_or wide v false) (ap (λ l. get_or l v false) eb ∙ get_or-zip2 and a top v false false false (omega (arith, h, la)) (omega (arith, h, lt)))
    ∙ ap (λ t. t && get_or top v false || get_or wide v false) (ap (λ l. get_or l v false) ea ∙ get_or-map not least v false false h)
    ∙ or_turned (get_or wide v false) (get_or top v false) (get_or least v false))

-- what is known in a processor of two fields, their absolute values and the products of these
absolute_low : (L x : ℕ) → x < 2 ^ L → low L (unsigned_abs (signed L x)) ≡ unsigned_abs (signed L x)
absolute_low L x below =
    let e = turned_absolute L x (leb (2 ^ (L - 1)) x) below refl in
    ap (low L) (sym e) ∙ mod-mod _ (2 ^ L) ∙ e

absolute_at : (L v : ℕ) (x u : FieldNumbers) → u ≡ absolute_field L x → v < length x.numbers → operand L u v ≡ unsigned_abs (signed L (operand L x v))
absolute_at L v x u is h =
    ap (λ (f : FieldNumbers). low L (get_or f.numbers v 0)) is
    ∙ ap (low L) (get_or-map-range_with_len _ 0 (length x.numbers) v v 0 h (omega arith))
    ∙ absolute_low L (operand L x v) (mod_below (get_or x.numbers v 0) (2 ^ L) (pow_pos L))

absolute_count : (L : ℕ) (x u : FieldNumbers) → u ≡ absolute_field L x → length u.numbers ≡ length x.numbers
absolute_count L x u is = ap (λ (f : FieldNumbers). length f.numbers) is ∙ length-map-range_with_len _ 0 (length x.numbers)

pub product_long : (L : ℕ) (x u w p : FieldNumbers) → u ≡ absolute_field L x → p ≡ binary_field UnsignedMultiply L u w (λ _. 0) → length p.numbers ≡ length x.numbers
product_long L x u w p eu ep = ap (λ (f : FieldNumbers). length f.numbers) ep ∙ length-map-range_with_len _ 0 (length u.numbers) ∙ absolute_count L x u eu

pub wide_long : (L : ℕ) (x u w : FieldNumbers) (wide : List Bool) → u ≡ absolute_field L x → wide ≡ overflow_plane UnsignedMultiply L u w (λ _. 0) → length wide ≡ length x.numbers
wide_long L x u w wide eu is = ap length is ∙ length-bits_everywhere (length u.numbers) _ ∙ absolute_count L x u eu

pub unlike_long : (L : ℕ) (x y : FieldNumbers) (unlike : List Bool) → unlike ≡ unlike_plane L x y → length unlike ≡ length x.numbers
unlike_long L x y unlike is = ap length is ∙ length-bits_everywhere (length x.numbers) _

absolute_product : (L v : ℕ) (x y u w : FieldNumbers) → length x.numbers ≡ length y.numbers → u ≡ absolute_field L x → w ≡ absolute_field L y → v < length x.numbers → operand L u v * operand L w v ≡ unsigned_abs (signed L (operand L x v)) * unsigned_abs (signed L (operand L y v))
absolute_product L v x y u w same eu ew h =
    ap (λ t. t * operand L w v) (absolute_at L v x u eu h)
    ∙ ap (λ t. unsigned_abs (signed L (operand L x v)) * t) (absolute_at L v y w ew (omega (arith, h, same)))

product_at : (L v : ℕ) (x y u w p : FieldNumbers) → length x.numbers ≡ length y.numbers → u ≡ absolute_field L x → w ≡ absolute_field L y → p ≡ binary_field UnsignedMultiply L u w (λ _. 0) → v < length x.numbers → operand L p v ≡ low L (unsigned_abs (signed L (operand L x v)) * unsigned_abs (signed L (operand L y v)))
product_at L v x y u w p same eu ew ep h =
    ap (λ (f : FieldNumbers). low L (get_or f.numbers v 0)) ep
    ∙ ap (low L) (get_or-map-range_with_len _ 0 (length u.numbers) v v 0 (omega (arith, h, absolute_count L x u eu)) (omega arith))
    ∙ mod-mod (operand L u v * operand L w v) (2 ^ L)
    ∙ ap (low L) (absolute_product L v x y u w same eu ew h)

signs_at : (L v : ℕ) (x y : FieldNumbers) (unlike : List Bool) → unlike ≡ unlike_plane L x y → v < length x.numbers → get_or unlike v false ≡ differ (leb (2 ^ (L - 1)) (operand L x v)) (leb (2 ^ (L - 1)) (operand L y v))
signs_at L v x y unlike is h = ap (λ l. get_or l v false) is ∙ get_or-bits_everywhere (length x.numbers) _ v h

-- the products of absolute values, with their signs
pub signed_values : (L : ℕ) (x y u w p : FieldNumbers) (unlike : List Bool) → length x.numbers ≡ length y.numbers → unlike ≡ unlike_plane L x y → u ≡ absolute_field L x → w ≡ absolute_field L y → p ≡ binary_field UnsignedMultiply L u w (λ _. 0) → opposite_field L unlike p ≡ binary_field SignedMultiply L x y (λ _. 0)
unfolding made
signed_values L x y u w p unlike same el eu ew ep =
    let n : ℕ = length x.numbers in
    let count : length p.numbers ≡ n = product_long L x u w p eu ep in
    ap (λ m. made L (everywhere m (λ v. low L (cond (get_or unlike v false) (2 ^ L - operand L p v) (operand L p v))))) count
    ∙ ap (made L) (everywhere_same n _ (λ v. low L (low_signed L (signed L (operand L x v) *ℤ signed L (operand L y v)))) (λ v h.
    ap (λ t. low L (cond (get_or unlike v false) (2 ^ L - t) t)) (product_at L v x y u w p same eu ew ep h)
    ∙ value_at L (operand L x v) (operand L y v) (get_or unlike v false) (signs_at L v x y unlike el h)))

-- and where they overflow
pub signed_overflows : (L : ℕ) (x y u w p : FieldNumbers) (unlike wide top least : List Bool) → 0 < L → length x.numbers ≡ length y.numbers → unlike ≡ unlike_plane L x y → u ≡ absolute_field L x → w ≡ absolute_field L y → p ≡ binary_field UnsignedMultiply L u w (λ _. 0) → wide ≡ overflow_plane UnsignedMultiply L u w (λ _. 0) → ((v : ℕ) → v < length p.numbers → bit_in top v ≡ get_or p.numbers v 0 / 2 ^ (L - 1) % 2) → least ≡ least_plane L unlike p → bits_everywhere (length least) (λ v. has wide v || has top v && not (has least v)) ≡ overflow_plane SignedMultiply L x y (λ _. 0)
signed_overflows L x y u w p unlike wide top least some same el eu ew ep is at ll =
    let n : ℕ = length x.numbers in
    let count : length p.numbers ≡ n = product_long L x u w p eu ep in
    ap (λ m. bits_everywhere m (λ v. has wide v || has top v && not (has least v))) (least_long L p unlike least ll ∙ count)
    ∙ bits_same n _ (λ v. is_outside_signed L (signed L (operand L x v) *ℤ signed L (operand L y v))) (λ v h.
    let more : Bool = leb (2 ^ L) (unsigned_abs (signed L (operand L x v)) * unsigned_abs (signed L (operand L y v))) in
    ap (λ b. b || get_or top v false && not (get_or least v false))
    (ap (λ l. get_or l v false) is ∙ get_or-bits_everywhere (length u.numbers) _ v (omega (arith, h, absolute_count L x u eu)) ∙ ap (leb (2 ^ L)) (absolute_product L v x y u w same eu ew h))
    ∙ ap (λ b. more || b && not (get_or least v false)) (top_of_low L (get_or p.numbers v 0) (get_or top v false) some (at v (omega (arith, h, count))))
    ∙ ap (λ b. more || leb (2 ^ (L - 1)) (operand L p v) && not b) (ap (λ l. get_or l v false) ll ∙ get_or-bits_everywhere (length p.numbers) _ v (omega (arith, h, count)))
    ∙ overflow_at L (operand L x v) (operand L y v) (operand L p v) (get_or unlike v false) some (signs_at L v x y unlike el h) (product_at L v x y u w p same eu ew ep h))
