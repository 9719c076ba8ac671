-- Numbers that are combined plane by plane, and the lists that they show.
use Rattle.std.proofs.Common.{◌≡◌, ℕ, ◌+◌, ◌*◌, ◌%◌, ◌^◌, ◌<◌, Bool, true, false, List, [], ◌∷◌, ◌++◌, length, get_or, cond, max, arith, ap, ◌∙◌, sym, refl, ltb, mul-one, take}
use Rattle.std.specs.Prelude.{All}
use Rattle.std.specs.Simd.Lanes.{zip2}
use Rattle.std.proofs.Math.Nat.{mod-eq_of_lt}
use Rattle.std.proofs.lemmas.Bool.Decides.{nat_tests}
use Rattle.std.proofs.lemmas.List.Elements.{All-head}
use Rattle.std.proofs.lemmas.Simd.{get_or-zip2, length-zip2}
use Rattle.paris_model.specs.Store.{bit}
use Rattle.paris_model.specs.Combine.{combine, combined}
use Rattle.paris_model.specs.declared.operators.Combiner.{Combiner}
use Rattle.paris_model.proofs.Combining.{commutes}
use Rattle.paris_plane.specs.Bits.{ByBit, borrow_bit, word_bit}
use Rattle.paris_field.specs.Numbers.{AllOf, bit_in, number_at, plane_at}
use Rattle.paris_field.proofs.Numbers.{one_more}
use Rattle.paris_field.proofs.Halves.{number_from_bits, word_bit-number_at}
use Rattle.paris_scan.specs.Firsts.{first_shown}
use Rattle.paris_scan.specs.Laws.{combined_append}
use Rattle.paris_scan.proofs.Tops.{low_lt}

-- an operation on each two bits, in numbers
pub bits_combined : (op : ℕ → ℕ → ℕ) (g : Bool → Bool → Bool) → ByBit op g → (v u w : ℕ) (xs ys zs : List (List Bool)) → length ys ≡ length xs → length zs ≡ length xs
    → ((k : ℕ) → k < length xs → get_or (plane_at zs k) w false ≡ g (get_or (plane_at xs k) v false) (get_or (plane_at ys k) u false)) → op (number_at xs v) (number_at ys u) < 2 ^ length xs → number_at zs w ≡ op (number_at xs v) (number_at ys u)
bits_combined op g law v u w xs ys zs ny nz each small =
    let a : ℕ = number_at xs v in
    let b : ℕ = number_at ys u in
    number_from_bits zs w (op a b) (λ k hk.
    each k (omega arith)
    ∙ sym (law a b k ∙ ap (λ t. g t (word_bit b k)) (word_bit-number_at xs k v) ∙ ap (g (get_or (plane_at xs k) v false)) (word_bit-number_at ys k u)))
    ∙ ap (λ m. op a b % 2 ^ m) nz
    ∙ mod-eq_of_lt small

pub combined_number : (op : ℕ → ℕ → ℕ) (g : Bool → Bool → Bool) → ByBit op g → (n v : ℕ) (xs ys zs : List (List Bool)) → length ys ≡ length xs → length zs ≡ length xs → AllOf n xs → AllOf n ys → v < n
    → ((k : ℕ) → k < length xs → plane_at zs k ≡ zip2 g (plane_at xs k) (plane_at ys k)) → op (number_at xs v) (number_at ys v) < 2 ^ length xs → number_at zs v ≡ op (number_at xs v) (number_at ys v)
combined_number op g law n v xs ys zs ny nz ax ay h each small =
    bits_combined op g law v v v xs ys zs ny nz (λ k in_xs.
    let nx : length (plane_at xs k) ≡ n = ax k in_xs in
    let my : length (plane_at ys k) ≡ n = ay k (omega (arith, in_xs, ny)) in
    ap (λ l. get_or l v false) (each k in_xs)
    ∙ get_or-zip2 g (plane_at xs k) (plane_at ys k) v false false false (omega (arith, h, nx)) (omega (arith, h, my)))
    small

pub all_zipped : (g : Bool → Bool → Bool) (n : ℕ) (xs ys zs : List (List Bool)) → length ys ≡ length xs → length zs ≡ length xs → AllOf n xs → AllOf n ys → ((k : ℕ) → k < length xs → plane_at zs k ≡ zip2 g (plane_at xs k) (plane_at ys k)) → AllOf n zs
all_zipped g n xs ys zs ny nz ax ay each k h =
    let in_xs : k < length xs = omega (arith, h, nz) in
    let in_ys : k < length ys = omega (arith, h, nz, ny) in
    ap length (each k in_xs) ∙ length-zip2 g (plane_at xs k) (plane_at ys k) (ax k in_xs ∙ sym (ay k in_ys)) ∙ ax k in_xs

-- numbers that show two lists, combined, show one after the other
pub joined_by : (op : Combiner) (L : ℕ) → ((x : ℕ) → combine op L 0 x ≡ x) → (x y z : ℕ) (xs ys : List ℕ) → x ≡ combined op L 0 xs → y ≡ combined op L 0 ys → z ≡ combine op L y x → z ≡ combined op L 0 (xs ++ ys)
joined_by op L none x y z xs ys ex ey ez =
    ez ∙ ap (λ t. combine op L t x) ey ∙ ap (combine op L (combined op L 0 ys)) ex ∙ commutes op L (combined op L 0 ys) (combined op L 0 xs)
    ∙ sym (combined_append op L none xs ys)

-- x is below y where the top bits say so, or say nothing and the rest does
below_step : (p xn yn : ℕ) (b x y : Bool) → xn < p → yn < p → b ≡ ltb xn yn → borrow_bit b x y ≡ ltb (xn + p * bit x) (yn + p * bit y)
unfolding borrow_bit
below_step p xn yn b true true hx hy e = grind (arith, nat_tests, mul-one p)
below_step p xn yn b true false hx hy e = grind (arith, nat_tests, mul-one p)
below_step p xn yn b false true hx hy e = grind (arith, nat_tests, mul-one p)
below_step p xn yn b false false hx hy e = grind (arith, nat_tests)

pub below_more : (k v u : ℕ) (xs ys : List (List Bool)) (x y : List Bool) (b c : Bool) → k < length xs → k < length ys → x ≡ plane_at xs k → y ≡ plane_at ys k
    → b ≡ ltb (number_at (take k xs) v) (number_at (take k ys) u) → c ≡ borrow_bit b (get_or x v false) (get_or y u false) → c ≡ ltb (number_at (take (k + 1) xs) v) (number_at (take (k + 1) ys) u)
below_more k v u xs ys x y b c hx hy ex ey before is =
    is
    ∙ below_step (2 ^ k) (number_at (take k xs) v) (number_at (take k ys) u) b (get_or x v false) (get_or y u false) (low_lt xs k v (omega arith)) (low_lt ys k u (omega arith)) before
    ∙ sym (ap (λ z. ltb z (number_at (take (k + 1) ys) u)) (one_more xs k v x hx ex) ∙ ap (ltb (number_at (take k xs) v + 2 ^ k * bit_in x v)) (one_more ys k u y hy ey))

-- the greater of two
pub greater : (x y : ℕ) → cond (ltb y x) x y ≡ max y x
greater x y = grind (arith, nat_tests)

-- the top bit of what shows a first value
top_of : (p a x : ℕ) (b : Bool) → a < p → a + p * bit b ≡ x + p → x < p → b ≡ true
top_of p a x true ha e hx = refl
top_of p a x false ha e hx = absurd (omega (arith, e))

no_top : (p a : ℕ) (b : Bool) → 0 < p → a + p * bit b ≡ 0 → b ≡ false
no_top p a true some e = absurd (omega (arith, e, mul-one p))
no_top p a false some e = refl

pub firsts_joined : (L z x y t : ℕ) (b : Bool) (xs ys : List ℕ) → 0 < 2 ^ L → t < 2 ^ L → All (λ x. x < 2 ^ L) xs → x ≡ t + 2 ^ L * bit b → x ≡ first_shown L xs → y ≡ first_shown L ys → z ≡ cond b x y → z ≡ first_shown L (xs ++ ys)
firsts_joined L z x y t b [] ys some small fits split ex ey is =
    is ∙ ap (λ c. cond c x y) (no_top (2 ^ L) t b some (sym split ∙ ex)) ∙ ey
firsts_joined L z x y t b (a ∷ xs) ys some small fits split ex ey is =
    is ∙ ap (λ c. cond c x y) (top_of (2 ^ L) t a b small (sym split ∙ ex) (All-head (λ x. x < 2 ^ L) a xs fits)) ∙ ex
