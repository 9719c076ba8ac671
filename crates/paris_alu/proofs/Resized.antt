-- Whole fields of one length as fields of another.
use Rattle.std.proofs.Common.{◌≡◌, ◌≤◌, ◌⊎◌, ℕ, zero, suc, ◌+◌, ◌-◌, ◌*◌, ◌%◌, ◌^◌, ◌<◌, List, [], ◌++◌, Bool, false, not, replicate, length, get_or, take, drop, inl, inr, leb, eqb, min, refl, arith, ◌∙◌, sym, ap, subst, mul-suc, length-append}
use Rattle.std.proofs.Math.Pow.{pow_mono}
use Rattle.std.proofs.lemmas.List.{length-take-le, length-drop, length-replicate, take_all, drop_all}
use Rattle.std.proofs.lemmas.Bool.Decides.{nat_tests}
use Rattle.std.proofs.lemmas.Bool.{cases_lt}
use Rattle.paris_model.specs.declared.operators.Sign.{Sign}
use Rattle.paris_model.specs.declared.operators.Sign.TheVariants.{Unsigned, Signed}
use Rattle.paris_model.specs.Store.{everywhere, signed, low_signed, is_outside_signed}
use Rattle.paris_model.specs.Elementwise.{resize_result, resize_overflow}
use Rattle.paris_field.specs.Numbers.{AllOf, bit_in, value_of_planes, number_at, plane_at, bits_everywhere}
use Rattle.paris_field.proofs.Numbers.{number_at_low, number_at_lt, number_at_more, number_at_split, zero_bit_in}
use Rattle.paris_alu.specs.Bits.{by_sign}
use Rattle.paris_field.proofs.Places.{Holds, all_above, all_first, all_repeated, bits_same, field_is}
use Rattle.paris_alu.proofs.Results.{low_lt, mod_small, top_split}
use Rattle.paris_alu.proofs.Totals.{held_lt}
use Rattle.paris_alu.proofs.Extended.{number_above, number_repeated, signed_fits, signed_narrow, signed_overflows, signed_wide, times_zero}

no_planes : (k : ℕ) (r : List Bool) (v : ℕ) → k ≡ 0 → number_at (replicate k r) v ≡ 0
unfolding number_at
no_planes k r v e = ap (λ j. number_at (replicate j r) v) e

narrow_number : (M L v : ℕ) (xs zs : List (List Bool)) (rest : List Bool) → length xs ≡ M → L ≤ M → zs ≡ take L xs ++ replicate (L - length (take L xs)) rest → number_at zs v ≡ number_at xs v % 2 ^ L
narrow_number M L v xs zs rest long narrow is =
    let count : length (take L xs) ≡ L = length-take-le L xs (omega (arith, long, narrow)) in
    let none : number_at (replicate (L - length (take L xs)) rest) v ≡ 0 = no_planes (L - length (take L xs)) rest v (omega (arith, count)) in
    omega (arith, ap (λ l. number_at l v) is ∙ number_above (take L xs) (replicate (L - length (take L xs)) rest) v, times_zero (2 ^ length (take L xs)) _ none, number_at_low xs L v (omega (arith, long, narrow)))

wide_number : (M L v : ℕ) (xs zs : List (List Bool)) (rest : List Bool) → length xs ≡ M → M ≤ L → zs ≡ take M xs ++ replicate (L - length (take M xs)) rest → number_at zs v ≡ number_at xs v + 2 ^ M * number_at (replicate (L - M) rest) v
wide_number M L v xs zs rest long wide is =
    let all : take M xs ≡ xs = take_all M xs (omega (arith, long)) in
    ap (λ l. number_at l v) (is ∙ ap (λ l. l ++ replicate (L - length l) rest) all ∙ ap (λ k. xs ++ replicate (L - k) rest) long)
    ∙ number_above xs (replicate (L - M) rest) v ∙ ap (λ k. number_at xs v + 2 ^ k * number_at (replicate (L - M) rest) v) long

-- the number in a processor
resized_at : (sign : Sign) (n M L kept v : ℕ) (f : ℕ → ℕ) (xs zs : List (List Bool)) (top rest : List Bool) → Holds n M f xs → 0 < M → v < n → ((L ≤ M) × (kept ≡ L)) ⊎ ((M ≤ L) × (kept ≡ M)) → top ≡ plane_at xs (kept - 1) → rest ≡ by_sign sign (replicate (length top) false) top → zs ≡ take kept xs ++ replicate (L - length (take kept xs)) rest → number_at zs v ≡ resize_result sign L M (f v)
resized_at Unsigned n M L kept v f xs zs top rest x some h (inl p) et er is =
    narrow_number M L v xs zs rest x.count p.0 (is ∙ ap (λ k. take k xs ++ replicate (L - length (take k xs)) rest) p.1) ∙ ap (λ z. z % 2 ^ L) (x.at v h)
resized_at Unsigned n M L kept v f xs zs top rest x some h (inr p) et er is =
    let none : bit_in rest v ≡ 0 = ap (λ l. bit_in l v) er ∙ zero_bit_in (length top) v in
    let zeros : number_at (replicate (L - M) rest) v ≡ 0 = omega (arith, number_repeated (L - M) rest v, none, times_zero (2 ^ (L - M)) (bit_in rest v) none) in
    let larger : 2 ^ M ≤ 2 ^ L = pow_mono p.0 in
    omega (arith, wide_number M L v xs zs rest x.count p.0 (is ∙ ap (λ k. take k xs ++ replicate (L - length (take k xs)) rest) p.1), times_zero (2 ^ M) _ zeros, x.at v h, mod_small (2 ^ L) (f v) (omega (arith, held_lt x v h, larger)))
resized_at Signed n M L kept v f xs zs top rest x some h (inl p) et er is =
    let e : f v ≡ number_at (take (M - 1) xs) v + 2 ^ (M - 1) * bit_in (plane_at xs (M - 1)) v = sym (x.at v h) ∙ top_split xs M v some x.count in
    narrow_number M L v xs zs rest x.count p.0 (is ∙ ap (λ k. take k xs ++ replicate (L - length (take k xs)) rest) p.1) ∙ ap (λ z. z % 2 ^ L) (x.at v h ∙ e)
    ∙ signed_narrow L M (number_at (take (M - 1) xs) v) (get_or (plane_at xs (M - 1)) v false) some p.0 (low_lt xs (M - 1) v (omega (arith, x.count)))
    ∙ ap (λ z. low_signed L (signed M z)) (sym e)
resized_at Signed n M L kept v f xs zs top rest x some h (inr p) et er is =
    let e : f v ≡ number_at (take (M - 1) xs) v + 2 ^ (M - 1) * bit_in (plane_at xs (M - 1)) v = sym (x.at v h) ∙ top_split xs M v some x.count in
    let r : bit_in rest v ≡ bit_in (plane_at xs (M - 1)) v = ap (λ l. bit_in l v) (er ∙ et ∙ ap (λ k. plane_at xs (k - 1)) p.1) in
    wide_number M L v xs zs rest x.count p.0 (is ∙ ap (λ k. take k xs ++ replicate (L - length (take k xs)) rest) p.1)
    ∙ ap (λ z. z + 2 ^ M * number_at (replicate (L - M) rest) v) (x.at v h ∙ e)
    ∙ signed_wide L M (number_at (take (M - 1) xs) v) (number_at (replicate (L - M) rest) v) (get_or (plane_at xs (M - 1)) v false) some p.0 (low_lt xs (M - 1) v (omega (arith, x.count)))
    (ap (λ z. number_at (replicate (L - M) rest) v + z) (sym r) ∙ number_repeated (L - M) rest v ∙ ap (λ z. 2 ^ (L - M) * z) r)
    ∙ ap (λ z. low_signed L (signed M z)) (sym e)

pub resized_value : (sign : Sign) (n M L kept : ℕ) (f : ℕ → ℕ) (xs zs : List (List Bool)) (top rest : List Bool) → Holds n M f xs → 0 < M → ((L ≤ M) × (kept ≡ L)) ⊎ ((M ≤ L) × (kept ≡ M)) → top ≡ plane_at xs (kept - 1) → rest ≡ by_sign sign (replicate (length top) false) top → zs ≡ take kept xs ++ replicate (L - length (take kept xs)) rest → length zs ≡ L → value_of_planes n zs ≡ record { width = L; numbers = everywhere n (λ v. resize_result sign L M (f v)) }
resized_value sign n M L kept f xs zs top rest x some which et er is long =
    field_is n L zs (λ v. resize_result sign L M (f v)) long (λ v h. resized_at sign n M L kept v f xs zs top rest x some h which et er is)

-- whether the higher planes are all the one that stands above
unsigned_overflows : (q lo high rest : ℕ) → lo < q → rest ≡ 0 → not (eqb high rest) ≡ leb q (lo + q * high)
unsigned_overflows q lo zero rest small none = grind (arith, nat_tests)
unsigned_overflows q lo (suc high) rest small none = grind (arith, nat_tests, mul-suc q high)

not_large : (q x : ℕ) → x < q → leb q x ≡ false
not_large q x h = grind (arith, nat_tests)

empty_above : (M v : ℕ) (xs : List (List Bool)) (rest : List Bool) → length xs ≡ M → not (eqb (number_at (drop M xs) v) (number_at (replicate (length (drop M xs)) rest) v)) ≡ false
unfolding number_at
empty_above M v xs rest long =
    let none : drop M xs ≡ [] = drop_all M xs (omega (arith, long)) in
    ap (λ l. not (eqb (number_at l v) (number_at (replicate (length l) rest) v))) none

overflows_at : (sign : Sign) (n M L kept v : ℕ) (f : ℕ → ℕ) (xs : List (List Bool)) (top rest : List Bool) → Holds n M f xs → 0 < M → 0 < L → v < n → ((L < M) × (kept ≡ L)) ⊎ ((M ≤ L) × (kept ≡ M)) → top ≡ plane_at xs (kept - 1) → rest ≡ by_sign sign (replicate (length top) false) top → not (eqb (number_at (drop kept xs) v) (number_at (replicate (length (drop kept xs)) rest) v)) ≡ resize_overflow sign L M (f v)
overflows_at Unsigned n M L kept v f xs top rest x some some_left h (inl p) et er =
    let none : bit_in rest v ≡ 0 = ap (λ l. bit_in l v) er ∙ zero_bit_in (length top) v in
    let zeros : number_at (replicate (length (drop L xs)) rest) v ≡ 0 = omega (arith, number_repeated (length (drop L xs)) rest v, none, times_zero (2 ^ length (drop L xs)) (bit_in rest v) none) in
    ap (λ k. not (eqb (number_at (drop k xs) v) (number_at (replicate (length (drop k xs)) rest) v))) p.1
    ∙ unsigned_overflows (2 ^ L) (number_at (take L xs) v) (number_at (drop L xs) v) _ (low_lt xs L v (omega (arith, x.count, p.0))) zeros
    ∙ ap (leb (2 ^ L)) (sym (number_at_split xs L v) ∙ x.at v h)
overflows_at Unsigned n M L kept v f xs top rest x some some_left h (inr p) et er =
    let larger : 2 ^ M ≤ 2 ^ L = pow_mono p.0 in
    let small : f v < 2 ^ L = omega (arith, held_lt x v h, larger) in
    ap (λ k. not (eqb (number_at (drop k xs) v) (number_at (replicate (length (drop k xs)) rest) v))) p.1
    ∙ empty_above M v xs rest x.count ∙ sym (not_large (2 ^ L) (f v) small)
overflows_at Signed n M L kept v f xs top rest x some some_left h (inl p) et er =
    let e : f v ≡ number_at (take (M - 1) xs) v + 2 ^ (M - 1) * bit_in (plane_at xs (M - 1)) v = sym (x.at v h) ∙ top_split xs M v some x.count in
    let r : bit_in rest v ≡ bit_in (plane_at xs (L - 1)) v = ap (λ l. bit_in l v) (er ∙ et ∙ ap (λ k. plane_at xs (k - 1)) p.1) in
    let left : length (drop L xs) ≡ M - L = length-drop L xs ∙ ap (λ k. k - L) x.count in
    let high_lt : number_at (drop L xs) v < 2 ^ (M - L) = subst (λ k. number_at (drop L xs) v < 2 ^ k) left (number_at_lt (drop L xs) v) in
    let up : L ≡ suc (L - 1) = omega (arith, some_left) in
    let low_split : number_at (take L xs) v ≡ number_at (take (L - 1) xs) v + 2 ^ (L - 1) * bit_in (plane_at xs (L - 1)) v =
    ap (λ k. number_at (take k xs) v) up ∙ number_at_more xs (L - 1) v (omega (arith, x.count, p.0)) in
    ap (λ k. not (eqb (number_at (drop k xs) v) (number_at (replicate (length (drop k xs)) rest) v))) p.1
    ∙ signed_overflows L M (number_at (take (L - 1) xs) v) (number_at (take (M - 1) xs) v) (number_at (drop L xs) v) (number_at (replicate (length (drop L xs)) rest) v) (get_or (plane_at xs (L - 1)) v false) (get_or (plane_at xs (M - 1)) v false) some_left p.0
    (low_lt xs (L - 1) v (omega (arith, x.count, p.0))) (low_lt xs (M - 1) v (omega (arith, x.count))) high_lt
    (sym e ∙ sym (x.at v h) ∙ number_at_split xs L v ∙ ap (λ z. z + 2 ^ L * number_at (drop L xs) v) low_split)
    (ap (λ z. number_at (replicate (length (drop L xs)) rest) v + z) (sym r) ∙ number_repeated (length (drop L xs)) rest v ∙ ap (λ k. 2 ^ k * bit_in rest v) left ∙ ap (λ z. 2 ^ (M - L) * z) r)
    ∙ ap (λ z. is_outside_signed L (signed M z)) (sym e)
overflows_at Signed n M L kept v f xs top rest x some some_left h (inr p) et er =
    let e : f v ≡ number_at (take (M - 1) xs) v + 2 ^ (M - 1) * bit_in (plane_at xs (M - 1)) v = sym (x.at v h) ∙ top_split xs M v some x.count in
    ap (λ k. not (eqb (number_at (drop k xs) v) (number_at (replicate (length (drop k xs)) rest) v))) p.1
    ∙ empty_above M v xs rest x.count
    ∙ sym (signed_fits L M (number_at (take (M - 1) xs) v) (get_or (plane_at xs (M - 1)) v false) some p.0 (low_lt xs (M - 1) v (omega (arith, x.count))))
    ∙ ap (λ z. is_outside_signed L (signed M z)) (sym e)

pub resized_overflow : (sign : Sign) (n M L kept : ℕ) (f : ℕ → ℕ) (xs : List (List Bool)) (top rest plane : List Bool) → Holds n M f xs → 0 < M → 0 < L → ((L < M) × (kept ≡ L)) ⊎ ((M ≤ L) × (kept ≡ M)) → top ≡ plane_at xs (kept - 1) → rest ≡ by_sign sign (replicate (length top) false) top → length rest ≡ n → plane ≡ bits_everywhere (length rest) (λ v. not (eqb (number_at (drop kept xs) v) (number_at (replicate (length (drop kept xs)) rest) v))) → plane ≡ bits_everywhere n (λ v. resize_overflow sign L M (f v))
resized_overflow sign n M L kept f xs top rest plane x some some_left which et er long is =
    is ∙ ap (λ m. bits_everywhere m (λ v. not (eqb (number_at (drop kept xs) v) (number_at (replicate (length (drop kept xs)) rest) v)))) long
    ∙ bits_same n (λ v. not (eqb (number_at (drop kept xs) v) (number_at (replicate (length (drop kept xs)) rest) v))) (λ v. resize_overflow sign L M (f v)) (λ v h. overflows_at sign n M L kept v f xs top rest x some some_left h which et er)

-- how many planes are kept
pub shorter : (a b k : ℕ) → k ≡ min a b → ((b < a) × (k ≡ b)) ⊎ ((a ≤ b) × (k ≡ a))
shorter a b k e = elim (cases_lt b a) [ inl h ↦ inl (h, omega (arith, e, h)) | inr h ↦ inr (h, omega (arith, e, h)) ]

pub kept_le : (a b k : ℕ) → ((b < a) × (k ≡ b)) ⊎ ((a ≤ b) × (k ≡ a)) → (k ≤ a) × (k ≤ b)
kept_le a b k (inl p) = (omega (arith, p.0, p.1), omega (arith, p.1))
kept_le a b k (inr p) = (omega (arith, p.1), omega (arith, p.0, p.1))

pub kept_some : (a b k : ℕ) → 0 < a → 0 < b → ((b < a) × (k ≡ b)) ⊎ ((a ≤ b) × (k ≡ a)) → 0 < k
kept_some a b k ha hb (inl p) = omega (arith, hb, p.1)
kept_some a b k ha hb (inr p) = omega (arith, ha, p.1)

pub no_longer : (a b k : ℕ) → ((b < a) × (k ≡ b)) ⊎ ((a ≤ b) × (k ≡ a)) → ((b ≤ a) × (k ≡ b)) ⊎ ((a ≤ b) × (k ≡ a))
no_longer a b k (inl p) = inl (omega (arith, p.0), p.1)
no_longer a b k (inr p) = inr p

pub rest_long : (sign : Sign) (top : List Bool) → length (by_sign sign (replicate (length top) false) top) ≡ length top
rest_long Unsigned top = length-replicate (length top) false
rest_long Signed top = refl

pub extended_long : (kept L : ℕ) (xs zs : List (List Bool)) (rest : List Bool) → kept ≤ length xs → kept ≤ L → zs ≡ take kept xs ++ replicate (L - length (take kept xs)) rest → length zs ≡ L
extended_long kept L xs zs rest hx hl is =
    omega (arith, ap length is, length-append (take kept xs) (replicate (L - length (take kept xs)) rest), length-take-le kept xs hx, length-replicate (L - length (take kept xs)) rest)

pub all_extended : (n kept L : ℕ) (xs zs : List (List Bool)) (rest : List Bool) → kept ≤ length xs → AllOf n xs → length rest ≡ n → zs ≡ take kept xs ++ replicate (L - length (take kept xs)) rest → AllOf n zs
all_extended n kept L xs zs rest hx all long is =
    subst (λ (ps : List (List Bool)). AllOf n ps) (sym is)
    (all_above n (take kept xs) (replicate (L - length (take kept xs)) rest) (all_first n kept xs hx all) (all_repeated n (L - length (take kept xs)) rest long))
