-- Planes and fields that are made one by one, and what they hold in each processor.
use Rattle.std.proofs.Common.{◌≡◌, ◌≤◌, ℕ, zero, suc, ◌+◌, ◌-◌, ◌*◌, ◌^◌, ◌<◌, List, [], ◌∷◌, ◌++◌, Bool, false, length, get_or, replicate, take, arith, ◌∙◌, sym, ap, refl}
use Rattle.std.specs.Simd.Lanes.{zip2}
use Rattle.std.proofs.Math.Nat.{pow-succ', mul_assoc}
use Rattle.std.proofs.lemmas.List.FromFn.{fill_by_all, length-map-range_with_len, get_or-map-range_with_len}
use Rattle.std.proofs.lemmas.List.{length-replicate, get_or-replicate, get_or_read, get_or-take, length-take-le, take_more}
use Rattle.paris_model.specs.Store.{everywhere}
use Rattle.paris_plane.specs.Bits.{zip3}
use Rattle.paris_plane.proofs.Bits.{length-zip3, get_or-zip3}
use Rattle.paris_field.specs.Fields.{FieldNumbers}
use Rattle.paris_field.specs.Numbers.{AllOf, bit_in, value_of_planes, number_at, numbers, plane_at, bits_everywhere}
use Rattle.paris_field.proofs.Lists.{numbers_are}

-- a plane that is f in each processor
pub plane_is : (p : List Bool) (n : ℕ) (f : ℕ → Bool) → length p ≡ n → ((v : ℕ) → v < n → get_or p v false ≡ f v) → p ≡ bits_everywhere n f
plane_is p n f long each = fill_by_all f p n false long each

pub length-bits_everywhere : (n : ℕ) (f : ℕ → Bool) → length (bits_everywhere n f) ≡ n
length-bits_everywhere n f = length-map-range_with_len f 0 n

pub get_or-bits_everywhere : (n : ℕ) (f : ℕ → Bool) (v : ℕ) → v < n → get_or (bits_everywhere n f) v false ≡ f v
get_or-bits_everywhere n f v h = get_or-map-range_with_len f 0 n v v false h (omega arith)

-- two functions that agree below n
pub everywhere_same : (n : ℕ) (f g : ℕ → ℕ) → ((v : ℕ) → v < n → f v ≡ g v) → everywhere n f ≡ everywhere n g
everywhere_same n f g each = fill_by_all g (everywhere n f) n 0 (length-map-range_with_len f 0 n) (λ v h. get_or-map-range_with_len f 0 n v v 0 h (omega arith) ∙ each v h)

pub bits_same : (n : ℕ) (f g : ℕ → Bool) → ((v : ℕ) → v < n → f v ≡ g v) → bits_everywhere n f ≡ bits_everywhere n g
bits_same n f g each = plane_is (bits_everywhere n f) n g (length-bits_everywhere n f) (λ v h. get_or-bits_everywhere n f v h ∙ each v h)

-- a field whose planes hold f
pub field_is : (n L : ℕ) (ps : List (List Bool)) (f : ℕ → ℕ) → length ps ≡ L → ((v : ℕ) → v < n → number_at ps v ≡ f v) → value_of_planes n ps ≡ record { width = L; numbers = everywhere n f }
field_is n L ps f long each =
    let field : ℕ → List ℕ → FieldNumbers = λ w xs. record { width = w; numbers = xs } in
    let e : numbers n ps ≡ everywhere n f =
    numbers_are n ps (everywhere n f) (length-map-range_with_len f 0 n) (λ v h. each v h ∙ sym (get_or-map-range_with_len f 0 n v v 0 h (omega arith))) in
    ap (λ w. field w (numbers n ps)) long ∙ ap (field L) e

-- one plane more on top
double_pow : (k b : ℕ) → 2 ^ suc k * b ≡ 2 * (2 ^ k * b)
double_pow k b = ap (λ p. p * b) (pow-succ' 2 k) ∙ mul_assoc 2 (2 ^ k) b

pub number_pushed : (ps : List (List Bool)) (p : List Bool) (v : ℕ) → number_at (ps ++ p ∷ []) v ≡ number_at ps v + 2 ^ length ps * bit_in p v
unfolding number_at
number_pushed [] p v = omega arith
number_pushed (q ∷ ps) p v = omega (arith, number_pushed ps p v, double_pow (length ps) (bit_in p v))

pub all_pushed : (n : ℕ) (ps : List (List Bool)) (p : List Bool) → AllOf n ps → length p ≡ n → AllOf n (ps ++ p ∷ [])
all_pushed n [] p all long zero below = long
all_pushed n [] p all long (suc k) below = absurd (omega (arith, below))
all_pushed n (q ∷ ps) p all long zero below = all 0 (omega arith)
all_pushed n (q ∷ ps) p all long (suc k) below = all_pushed n ps p (λ j b. all (suc j) (omega (arith, b))) long k (omega (arith, below))

-- an operation on three planes, in a processor
pub length_triple : {n : ℕ} (g : Bool → Bool → Bool → Bool) (xs ys zs : List Bool) → length xs ≡ n → length ys ≡ n → length zs ≡ n → length (zip3 g xs ys zs) ≡ n
length_triple g xs ys zs nx ny nz = length-zip3 g xs ys zs (nx ∙ sym ny) (nx ∙ sym nz) ∙ nx

pub get_triple : {n : ℕ} (g : Bool → Bool → Bool → Bool) (xs ys zs : List Bool) (v : ℕ) → length xs ≡ n → length ys ≡ n → length zs ≡ n → v < n → get_or (zip3 g xs ys zs) v false ≡ g (get_or xs v false) (get_or ys v false) (get_or zs v false)
get_triple g xs ys zs v nx ny nz h = get_or-zip3 g xs ys zs v false false false false (nx ∙ sym ny) (nx ∙ sym nz) (omega (arith, nx))

-- a plane of zeros
pub clear_is : (n : ℕ) (p : List Bool) (f : ℕ → Bool) → p ≡ replicate n false → ((v : ℕ) → f v ≡ false) → p ≡ bits_everywhere n f
clear_is n p f is none = plane_is p n f (ap length is ∙ length-replicate n false) (λ v h. ap (λ l. get_or l v false) is ∙ get_or-replicate n v false false h ∙ sym (none v))

pub all_none : (n : ℕ) → AllOf n []
all_none n k below = absurd (omega (arith, below))

pub all_repeated : (n k : ℕ) (r : List Bool) → length r ≡ n → AllOf n (replicate k r)
all_repeated n k r long j below = ap length (get_or-replicate k j r [] (omega (arith, below, length-replicate k r))) ∙ long

-- a plane of a list that a loop reads
pub read_long : {n : ℕ} (ps : List (List Bool)) (k : ℕ) (p : List Bool) → AllOf n ps → k < length ps → p ≡ get_or ps k p → length p ≡ n
read_long ps k p all h is = ap length (get_or_read ps k p h is []) ∙ all k h

-- the highest of L planes
pub last_long : {n : ℕ} (L : ℕ) (ps : List (List Bool)) (p : List Bool) → 0 < L → length ps ≡ L → AllOf n ps → p ≡ get_or ps (L - 1) p → length p ≡ n
last_long L ps p some count all is = read_long ps (L - 1) p all (omega (arith, some, count)) is

-- planes that hold f in n processors
pub record Holds (n L : ℕ) (f : ℕ → ℕ) (ps : List (List Bool)) : Type 0 where
  pub count : length ps ≡ L
  pub long : AllOf n ps
  pub at : (v : ℕ) → v < n → number_at ps v ≡ f v

pub held : (n m L : ℕ) (f : ℕ → ℕ) (ps : List (List Bool)) → m ≡ n → length ps ≡ L → AllOf m ps → ((v : ℕ) → v < m → number_at ps v ≡ f v) → Holds n L f ps
held n m L f ps same count long at = record { count = count; long = λ k h. long k h ∙ same; at = λ v h. at v (omega (arith, same)) }

-- what an operation makes of one more of each list
zip2_push : {X Y Z : Type 0} (f : X → Y → Z) (xs : List X) (ys : List Y) (x : X) (y : Y) → length xs ≡ length ys → zip2 f (xs ++ x ∷ []) (ys ++ y ∷ []) ≡ zip2 f xs ys ++ f x y ∷ []
zip2_push f [] [] x y same = refl
zip2_push f [] (b ∷ ys) x y same = absurd (omega (arith, same))
zip2_push f (a ∷ xs) [] x y same = absurd (omega (arith, same))
zip2_push f (a ∷ xs) (b ∷ ys) x y same = ap (λ zs. f a b ∷ zs) (zip2_push f xs ys x y (omega (arith, same)))

pub zip2_more : (f : List Bool → List Bool → List Bool) (k : ℕ) (xs ys : List (List Bool)) (x y z : List Bool) (zs zs' : List (List Bool)) → k < length xs → k < length ys → x ≡ plane_at xs k → y ≡ plane_at ys k → z ≡ f x y → zs ≡ zip2 f (take k xs) (take k ys) → zs' ≡ zs ++ z ∷ [] → zs' ≡ zip2 f (take (k + 1) xs) (take (k + 1) ys)
zip2_more f k xs ys x y z zs zs' hx hy ex ey ez before pushed =
    pushed ∙ ap (λ l. l ++ z ∷ []) before ∙ ap (λ p. zip2 f (take k xs) (take k ys) ++ p ∷ []) ez
    ∙ sym (zip2_push f (take k xs) (take k ys) x y (length-take-le k xs (omega arith) ∙ sym (length-take-le k ys (omega arith))))
    ∙ ap (λ l. zip2 f l (take k ys ++ y ∷ [])) (sym (take_more xs k [] hx ∙ ap (λ p. take k xs ++ p ∷ []) (sym ex)))
    ∙ ap (λ l. zip2 f (take (k + 1) xs) l) (sym (take_more ys k [] hy ∙ ap (λ p. take k ys ++ p ∷ []) (sym ey)))

-- planes above others, and the first planes
pub all_above : (n : ℕ) (ps qs : List (List Bool)) → AllOf n ps → AllOf n qs → AllOf n (ps ++ qs)
all_above n [] qs hp hq k below = hq k below
all_above n (p ∷ ps) qs hp hq zero below = hp 0 (omega arith)
all_above n (p ∷ ps) qs hp hq (suc k) below = all_above n ps qs (λ j b. hp (suc j) (omega (arith, b))) hq k (omega (arith, below))

pub all_first : (n k : ℕ) (ps : List (List Bool)) → k ≤ length ps → AllOf n ps → AllOf n (take k ps)
all_first n k ps h all j below =
    let b = length-take-le k ps h in
    ap length (get_or-take k ps j [] (omega (arith, below, b))) ∙ all j (omega (arith, below, b))
