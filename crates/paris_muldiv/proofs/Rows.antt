-- Products by rows: a bit of one factor and the other factor.
use Rattle.std.proofs.Common.{◌≡◌, ◌≤◌, ℕ, zero, suc, ◌+◌, ◌-◌, ◌*◌, ◌^◌, ◌<◌, List, [], ◌∷◌, ◌++◌, Bool, true, false, ◌||◌, ◌&&◌, refl, length, take, drop, set, arith, ◌∙◌, sym, ap, leb, ltb, mul-one}
use Rattle.std.proofs.Math.Nat.{pow-succ', mul_assoc, mul-suc}
use Rattle.std.proofs.lemmas.List.{length-take-le, take-take, drop-take, take_all, get_or-take, get_or-drop, length-take, length-drop}
use Rattle.std.proofs.lemmas.Nat.{pow-add}
use Rattle.std.proofs.lemmas.Bool.Decides.{nat_tests}
use Rattle.paris_model.specs.Store.{bit}
use Rattle.paris_field.specs.Numbers.{AllOf, bit_in, number_at, plane_at}
use Rattle.paris_field.proofs.Numbers.{double, number_at_split, one_more, one_written, step_of_numbers}

-- a bit under a mask
pub masked_bit : (a b : Bool) → bit (a && b) ≡ bit b * bit a
masked_bit true true = refl
masked_bit true false = refl
masked_bit false true = refl
masked_bit false false = refl

times_more : (p m a b : ℕ) → m * a + p * (m * b) ≡ m * (a + p * b)
times_more p m a b = omega arith

pub row_more : (p a b y : ℕ) → a * y + p * (b * y) ≡ (a + p * b) * y
row_more p a b y = omega arith

-- one more plane of a sum of which the second number is taken under a mask
pub where_more : (j v : ℕ) (ss os ys : List (List Bool)) (s d m y o c c0 : List Bool) → j < length ss → j < length os → j < length ys → o ≡ plane_at os j → y ≡ plane_at ys j → bit_in s v + 2 * bit_in d v ≡ bit_in m v * bit_in y v + bit_in o v + bit_in c v → number_at (take j ss) v + 2 ^ j * bit_in c v ≡ number_at (take j os) v + bit_in m v * number_at (take j ys) v + bit_in c0 v → number_at (take (j + 1) (set ss j s)) v + 2 ^ (j + 1) * bit_in d v ≡ number_at (take (j + 1) os) v + bit_in m v * number_at (take (j + 1) ys) v + bit_in c0 v
where_more j v ss os ys s d m y o c c0 hs ho hy eo ey bits below =
    let step = step_of_numbers (2 ^ j) (number_at (take j ss) v) (number_at (take j os) v) (bit_in m v * number_at (take j ys) v) (bit_in c0 v) (bit_in s v) (bit_in o v) (bit_in m v * bit_in y v) (bit_in c v) (bit_in d v) (omega (arith, bits)) below in
    ap (λ t. t + 2 ^ (j + 1) * bit_in d v) (one_written ss j v s hs)
    ∙ ap (λ t. number_at (take j ss) v + 2 ^ j * bit_in s v + t) (double j (bit_in d v))
    ∙ step
    ∙ ap (λ t. t + (bit_in m v * number_at (take j ys) v + 2 ^ j * (bit_in m v * bit_in y v)) + bit_in c0 v) (sym (one_more os j v o ho eo))
    ∙ ap (λ t. number_at (take (j + 1) os) v + t + bit_in c0 v) (times_more (2 ^ j) (bit_in m v) (number_at (take j ys) v) (bit_in y v) ∙ ap (λ t. bit_in m v * t) (sym (one_more ys j v y hy ey)))

-- planes above others
pub number_at-append : (ps qs : List (List Bool)) (v : ℕ) → number_at (ps ++ qs) v ≡ number_at ps v + 2 ^ length ps * number_at qs v
unfolding number_at
number_at-append [] qs v = omega arith
number_at-append (p ∷ ps) qs v =
    let twice : 2 ^ suc (length ps) * number_at qs v ≡ 2 * (2 ^ length ps * number_at qs v) = ap (λ t. t * number_at qs v) (pow-succ' 2 (length ps)) ∙ mul_assoc 2 (2 ^ length ps) (number_at qs v) in
    omega (arith, number_at-append ps qs v, twice)

-- a row is added, p bits up, and q bits up what it carries
pub row_added : (p q w low mid old c b y : ℕ) → q ≡ p * w → mid + w * c ≡ old + b * y + 0 → (low + p * mid) + q * c ≡ (low + p * old) + p * (b * y)
row_added p q w low mid old c b y e sum =
    let scaled : p * (mid + w * c) ≡ p * (old + b * y + 0) = ap (λ t. p * t) sum in
    let moved : q * c ≡ p * (w * c) = ap (λ t. t * c) e ∙ mul_assoc p w c in
    omega (arith, scaled, moved)

-- a row of zeros, and a plane of zeros above it
pub nothing_added : (q p low z b y : ℕ) → z ≡ 0 → b ≡ 0 → low + q * z ≡ low + p * (b * y)
nothing_added q p low z b y none zero_row =
    ap (λ t. low + q * t) none ∙ omega arith ∙ ap (λ t. low + p * (t * y)) (sym zero_row)

-- where any plane has a 1
pub any_more : (p n : ℕ) (x : Bool) → 0 < p → (ltb 0 n || x) ≡ ltb 0 (n + p * bit x)
any_more p n true some = grind (arith, nat_tests, mul-one p)
any_more p n false some = grind (arith, nat_tests)

-- a number needs more bits where there are any above
pub any_above : (m low high n : ℕ) → low < m → n ≡ low + m * high → ltb 0 high ≡ leb m n
any_above m low zero n below e = grind (arith, nat_tests)
any_above m low (suc high) n below e = grind (arith, nat_tests, mul-suc m high)

-- a row is put into the planes of a product: q after the sum is put over m planes of p, and z over the next
pub row_put : (k m v : ℕ) (p q mid ys : List (List Bool)) (z c c0 b : List Bool) → k + m < length q → k ≤ length p → take (k + m) q ≡ take k p ++ mid → bit_in z v ≡ bit_in c v → bit_in c0 v ≡ 0 → number_at mid v + 2 ^ m * bit_in c v ≡ number_at (take ((k + m) - k) (drop k p)) v + bit_in b v * number_at ys v + bit_in c0 v → number_at (take (k + m + 1) (set q (k + m) z)) v ≡ number_at (take (k + m) p) v + 2 ^ k * (bit_in b v * number_at ys v)
row_put k m v p q mid ys z c c0 b hq hp front ez none e =
    let low : ℕ = number_at (take k p) v in
    let old : ℕ = number_at (take m (drop k p)) v in
    let row : ℕ = bit_in b v * number_at ys v in
    let cut : number_at (take ((k + m) - k) (drop k p)) v ≡ old = ap (λ j. number_at (take j (drop k p)) v) (omega arith) in
    let sum : number_at mid v + 2 ^ m * bit_in c v ≡ old + row + 0 = e ∙ ap (λ t. t + row + bit_in c0 v) cut ∙ ap (λ t. old + row + t) none in
    let put : number_at (take (k + m) q) v ≡ low + 2 ^ k * number_at mid v =
    ap (λ ps. number_at ps v) front ∙ number_at-append (take k p) mid v ∙ ap (λ j. low + 2 ^ j * number_at mid v) (length-take-le k p hp) in
    let before : number_at (take (k + m) p) v ≡ low + 2 ^ k * old =
    number_at_split (take (k + m) p) k v
    ∙ ap (λ ps. number_at ps v + 2 ^ k * number_at (drop k (take (k + m) p)) v) (take-take k (k + m) p (omega arith))
    ∙ ap (λ ps. low + 2 ^ k * number_at ps v) (drop-take k m p) in
    one_written q (k + m) v z hq
    ∙ ap (λ t. t + 2 ^ (k + m) * bit_in z v) put
    ∙ ap (λ t. low + 2 ^ k * number_at mid v + 2 ^ (k + m) * t) ez
    ∙ row_added (2 ^ k) (2 ^ (k + m)) (2 ^ m) low (number_at mid v) old (bit_in c v) (bit_in b v) (number_at ys v) (pow-add 2 k m) sum
    ∙ ap (λ t. t + 2 ^ k * row) (sym before)

-- the planes from k on
pub rest_is : (k : ℕ) (ps : List (List Bool)) → take (length ps - k) (drop k ps) ≡ drop k ps
rest_is k ps = take_all (length ps - k) (drop k ps) (omega (arith, length-drop k ps))

pub all_rest : (n k : ℕ) (ps : List (List Bool)) → AllOf n ps → AllOf n (take (length ps - k) (drop k ps))
all_rest n k ps all j below =
    let few = length-take (length ps - k) (drop k ps) in
    let long = length-drop k ps in
    ap length (get_or-take (length ps - k) (drop k ps) j [] (omega (arith, below, few)) ∙ get_or-drop k ps j []) ∙ all (k + j) (omega (arith, below, few, long))
