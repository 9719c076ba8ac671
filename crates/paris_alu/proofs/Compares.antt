-- Comparisons of whole fields, and what is chosen by them.
use Rattle.std.proofs.Common.{◌≡◌, ℕ, ◌+◌, ◌-◌, ◌^◌, ◌<◌, List, Bool, true, false, not, cond, if◌then◌else◌, length, get_or, map, take, arith, ◌∙◌, sym, ap, ltb, eqb, refl}
use Rattle.std.proofs.lemmas.List.{take_all, get_or-map, length-map}
use Rattle.paris_model.specs.declared.operators.Sign.{Sign}
use Rattle.paris_model.specs.declared.operators.Sign.TheVariants.{Unsigned, Signed}
use Rattle.paris_model.specs.Store.{low, everywhere}
use Rattle.paris_model.specs.Elementwise.{is_less}
use Rattle.paris_plane.specs.Bits.{zip3, borrow_bit}
use Rattle.paris_field.specs.Fields.{FieldNumbers}
use Rattle.paris_field.specs.Numbers.{AllOf, number_at, plane_at, bits_everywhere}
use Rattle.paris_field.proofs.Places.{Holds, bits_same, everywhere_same, get_or-bits_everywhere, get_triple, length-bits_everywhere, length_triple, plane_is}
use Rattle.paris_alu.proofs.Chains.{chain_more}
use Rattle.paris_alu.proofs.Steps.{below_step}
use Rattle.paris_alu.proofs.Signs.{signed_below_step}
use Rattle.paris_alu.proofs.Results.{mod_small}
use Rattle.paris_alu.proofs.Totals.{held_lt}

-- the last plane is the top one
whole : (R : ℕ → ℕ → Bool) (n : ℕ) (xs ys : List (List Bool)) → 0 < length xs → length xs ≡ length ys → bits_everywhere n (λ v. R (number_at (take (length xs - 1 + 1) xs) v) (number_at (take (length xs - 1 + 1) ys) v)) ≡ bits_everywhere n (λ v. R (number_at xs v) (number_at ys v))
whole R n xs ys some same =
    ap (λ (l : List (List Bool)). bits_everywhere n (λ v. R (number_at l v) (number_at (take (length xs - 1 + 1) ys) v))) (take_all (length xs - 1 + 1) xs (omega arith))
    ∙ ap (λ (l : List (List Bool)). bits_everywhere n (λ v. R (number_at xs v) (number_at l v))) (take_all (length xs - 1 + 1) ys (omega arith))

pub less_unsigned : (n : ℕ) (xs ys : List (List Bool)) (x y b b' : List Bool) → 0 < length xs → length xs ≡ length ys → x ≡ plane_at xs (length xs - 1) → y ≡ plane_at ys (length xs - 1) → AllOf n xs → AllOf n ys
    → b ≡ bits_everywhere n (λ v. ltb (number_at (take (length xs - 1) xs) v) (number_at (take (length xs - 1) ys) v)) → b' ≡ zip3 borrow_bit b x y
    → b' ≡ bits_everywhere n (λ v. is_less Unsigned (length xs) (number_at xs v) (number_at ys v))
less_unsigned n xs ys x y b b' some same ex ey ax ay before is =
    let nx : length x ≡ n = ap length ex ∙ ax (length xs - 1) (omega arith) in
    let ny : length y ≡ n = ap length ey ∙ ay (length xs - 1) (omega arith) in
    let nb : length b ≡ n = ap length before ∙ length-bits_everywhere n _ in
    chain_more borrow_bit (λ p q. ltb p q) (λ p q. ltb p q) n (length xs - 1) xs ys x y b b' (below_step (2 ^ (length xs - 1))) (omega arith) (omega arith) ex ey before
    (ap length is ∙ length_triple borrow_bit b x y nb nx ny)
    (λ v h. ap (λ l. get_or l v false) is ∙ get_triple borrow_bit b x y v nb nx ny h)
    ∙ whole (λ p q. ltb p q) n xs ys some same

pub less_signed : (n : ℕ) (xs ys : List (List Bool)) (x y b b' : List Bool) → 0 < length xs → length xs ≡ length ys → x ≡ plane_at xs (length xs - 1) → y ≡ plane_at ys (length xs - 1) → AllOf n xs → AllOf n ys
    → b ≡ bits_everywhere n (λ v. ltb (number_at (take (length xs - 1) xs) v) (number_at (take (length xs - 1) ys) v)) → b' ≡ zip3 borrow_bit b y x
    → b' ≡ bits_everywhere n (λ v. is_less Signed (length xs) (number_at xs v) (number_at ys v))
less_signed n xs ys x y b b' some same ex ey ax ay before is =
    let nx : length x ≡ n = ap length ex ∙ ax (length xs - 1) (omega arith) in
    let ny : length y ≡ n = ap length ey ∙ ay (length xs - 1) (omega arith) in
    let nb : length b ≡ n = ap length before ∙ length-bits_everywhere n _ in
    chain_more (λ c s t. borrow_bit c t s) (λ p q. ltb p q) (λ p q. is_less Signed (length xs) p q) n (length xs - 1) xs ys x y b b'
    (λ xn yn c s t hx hy e. signed_below_step (length xs) xn yn c s t some hx hy e) (omega arith) (omega arith) ex ey before
    (ap length is ∙ length_triple borrow_bit b y x nb ny nx)
    (λ v h. ap (λ l. get_or l v false) is ∙ get_triple borrow_bit b y x v nb ny nx h)
    ∙ whole (λ p q. is_less Signed (length xs) p q) n xs ys some same

-- a relation of the numbers that planes hold
pub related : (R : ℕ → ℕ → Bool) (n L : ℕ) (f g : ℕ → ℕ) (xs ys : List (List Bool)) (p : List Bool) → Holds n L f xs → Holds n L g ys → p ≡ bits_everywhere n (λ v. R (number_at xs v) (number_at ys v)) → p ≡ bits_everywhere n (λ v. R (f v) (g v))
related R n L f g xs ys p x y is =
    is ∙ bits_same n (λ v. R (number_at xs v) (number_at ys v)) (λ v. R (f v) (g v)) (λ v h. ap (λ z. R z (number_at ys v)) (x.at v h) ∙ ap (R (f v)) (y.at v h))

-- and of two planes with every bit turned
pub turned : (n : ℕ) (f : ℕ → Bool) (p q : List Bool) → p ≡ bits_everywhere n f → q ≡ map not p → q ≡ bits_everywhere n (λ v. not (f v))
turned n f p q is e =
    let long : length p ≡ n = ap length is ∙ length-bits_everywhere n f in
    plane_is q n (λ v. not (f v)) (ap length e ∙ length-map p not ∙ long) (λ v h.
    ap (λ l. get_or l v false) e ∙ get_or-map not p v false false (omega (arith, long)) ∙ ap (λ l. not (get_or l v false)) is ∙ ap not (get_or-bits_everywhere n f v h))

not_not : (b : Bool) → not (not b) ≡ b
not_not true = refl
not_not false = refl

pub turned_twice : (n : ℕ) (f : ℕ → Bool) (p q : List Bool) → p ≡ bits_everywhere n (λ v. not (f v)) → q ≡ map not p → q ≡ bits_everywhere n f
turned_twice n f p q is e = turned n (λ v. not (f v)) p q is e ∙ bits_same n (λ v. not (not (f v))) f (λ v h. not_not (f v))

-- the numbers that a mask selects of two fields, where it is a relation of them
low_of_one : (b : Bool) (L x y : ℕ) → x < 2 ^ L → y < 2 ^ L → cond b y x ≡ low L (cond b y x)
low_of_one true L x y hx hy = sym (mod_small (2 ^ L) y hy)
low_of_one false L x y hx hy = sym (mod_small (2 ^ L) x hx)

pub chosen_field : (R : ℕ → ℕ → Bool) (n L : ℕ) (f g : ℕ → ℕ) (xs ys : List (List Bool)) (mask : List Bool) (value : FieldNumbers) → Holds n L f xs → Holds n L g ys → mask ≡ bits_everywhere n (λ v. R (f v) (g v))
    → value ≡ record { width = length xs; numbers = everywhere (length mask) (λ v. if get_or mask v false then number_at ys v else number_at xs v) }
    → value ≡ record { width = L; numbers = everywhere n (λ v. low L (if R (f v) (g v) then g v else f v)) }
chosen_field R n L f g xs ys mask value x y is e =
    let field : ℕ → List ℕ → FieldNumbers = λ w ns. record { width = w; numbers = ns } in
    let long : length mask ≡ n = ap length is ∙ length-bits_everywhere n (λ v. R (f v) (g v)) in
    e ∙ ap (λ w. field w (everywhere (length mask) (λ v. if get_or mask v false then number_at ys v else number_at xs v))) x.count
    ∙ ap (λ m. field L (everywhere m (λ v. if get_or mask v false then number_at ys v else number_at xs v))) long
    ∙ ap (field L) (everywhere_same n (λ v. if get_or mask v false then number_at ys v else number_at xs v) (λ v. low L (if R (f v) (g v) then g v else f v)) (λ v h.
    ap (λ b. cond b (number_at ys v) (number_at xs v)) (ap (λ l. get_or l v false) is ∙ get_or-bits_everywhere n (λ v. R (f v) (g v)) v h)
    ∙ ap (λ z. cond (R (f v) (g v)) z (number_at xs v)) (y.at v h) ∙ ap (cond (R (f v) (g v)) (g v)) (x.at v h)
    ∙ low_of_one (R (f v) (g v)) L (f v) (g v) (held_lt x v h) (held_lt y v h)))

-- where planes' numbers are less, for the operands that they hold
pub less_mask : (sign : Sign) (n m L : ℕ) (f g : ℕ → ℕ) (xs ys : List (List Bool)) (p : List Bool) → m ≡ n → Holds n L f xs → Holds n L g ys → p ≡ bits_everywhere m (λ v. is_less sign (length xs) (number_at xs v) (number_at ys v)) → p ≡ bits_everywhere n (λ v. is_less sign L (f v) (g v))
less_mask sign n m L f g xs ys p same x y is =
    related (λ a b. is_less sign L a b) n L f g xs ys p x y
    (is ∙ ap (λ k. bits_everywhere k (λ v. is_less sign (length xs) (number_at xs v) (number_at ys v))) same
    ∙ ap (λ k. bits_everywhere n (λ v. is_less sign k (number_at xs v) (number_at ys v))) x.count)

pub unlike_plane : (n m L : ℕ) (f g : ℕ → ℕ) (xs ys : List (List Bool)) (p : List Bool) → m ≡ n → Holds n L f xs → Holds n L g ys → p ≡ bits_everywhere m (λ v. not (eqb (number_at xs v) (number_at ys v))) → p ≡ bits_everywhere n (λ v. not (eqb (f v) (g v)))
unlike_plane n m L f g xs ys p same x y is =
    related (λ a b. not (eqb a b)) n L f g xs ys p x y (is ∙ ap (λ k. bits_everywhere k (λ v. not (eqb (number_at xs v) (number_at ys v)))) same)
