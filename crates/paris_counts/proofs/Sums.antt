-- Sums over processors: by blocks of 64, by planes, and as the definitions have them.
use Rattle.std.proofs.Common.{◌≡◌, ℕ, zero, suc, ◌+◌, ◌*◌, ◌/◌, ◌%◌, ◌^◌, ◌<◌, ◌≤◌, List, [], ◌∷◌, Bool, true, false, ◌&&◌, cond, get_or, length, drop, map, arith, ◌∙◌, sym, ap, refl, bit_and}
use Rattle.std.specs.Prelude.{count_ones, sum}
use Rattle.std.specs.List.{range_with_len, filter}
use Rattle.std.specs.Int.{bit_at}
use lib.Count.{ones_step, ones-le}
use lib.Pow.{shr-shr, pow_mono}
use Rattle.std.proofs.lemmas.List.{length-drop}
use Rattle.std.proofs.lemmas.List.Sums.{sum_by-append}
use Rattle.std.proofs.lemmas.Nat.Bits.{bit_at-lt}
use Rattle.std.proofs.lemmas.Bool.Decides.{nat_tests}
use Rattle.paris_model.specs.Store.{bit}
use Rattle.paris_model.specs.Lines.{values_where}
use Rattle.paris_plane.specs.Bits.{word_bit}
use Rattle.paris_plane.specs.Laws.{and_by_bit}
use Rattle.paris_field.specs.Numbers.{bit_in, has, number_at}
use Rattle.paris_field.proofs.Numbers.{number_at_lt}
use Rattle.paris_counts.specs.Masked.{masked_sum}

-- two runs of numbers
pub sum_joined : (who : ℕ → Bool) (f : ℕ → ℕ) (a m k : ℕ) → masked_sum who f a (m + k) ≡ masked_sum who f a m + masked_sum who f (a + m) k
unfolding masked_sum
sum_joined who f a zero k =
    omega (arith, ap (λ t. masked_sum who f a t) (let e : 0 + k ≡ k = omega arith in e), ap (λ b. masked_sum who f b k) (let e : a ≡ a + 0 = omega arith in e))
sum_joined who f a (suc m) k =
    ap (λ t. masked_sum who f a t) (let e : suc m + k ≡ suc (m + k) = omega arith in e)
    ∙ ap (λ t. cond (who a) (f a) 0 + t) (sum_joined who f (a + 1) m k ∙ ap (λ b. masked_sum who f (a + 1) m + masked_sum who f b k) (let e : a + 1 + m ≡ a + suc m = omega arith in e))
    ∙ (let e : cond (who a) (f a) 0 + (masked_sum who f (a + 1) m + masked_sum who f (a + suc m) k) ≡ cond (who a) (f a) 0 + masked_sum who f (a + 1) m + masked_sum who f (a + suc m) k = omega arith in e)

-- a function that is twice one and another one
twice_at : (b : Bool) (h f g : ℕ) → h ≡ f + 2 * g → cond b h 0 ≡ cond b f 0 + 2 * cond b g 0
twice_at true h f g e = e
twice_at false h f g e = refl

pub sum_twice : (who : ℕ → Bool) (h f g : ℕ → ℕ) (a n : ℕ) → ((v : ℕ) → a ≤ v → v < a + n → h v ≡ f v + 2 * g v) → masked_sum who h a n ≡ masked_sum who f a n + 2 * masked_sum who g a n
unfolding masked_sum
sum_twice who h f g a zero each = refl
sum_twice who h f g a (suc n) each =
    omega (arith, twice_at (who a) (h a) (f a) (g a) (each a (omega arith) (omega arith)), sum_twice who h f g (a + 1) n (λ v l u. each v (omega arith) (omega arith)))

-- nothing to add
none_at : (b : Bool) (x : ℕ) → x ≡ 0 → cond b x 0 ≡ 0
none_at true x e = e
none_at false x e = refl

pub sum_none : (who : ℕ → Bool) (f : ℕ → ℕ) (a n : ℕ) → ((v : ℕ) → f v ≡ 0) → masked_sum who f a n ≡ 0
unfolding masked_sum
sum_none who f a zero each = refl
sum_none who f a (suc n) each = omega (arith, none_at (who a) (f a) (each a), sum_none who f (a + 1) n each)

-- a bound
bound_at : (b : Bool) (x m : ℕ) → x ≤ m → cond b x 0 ≤ m
bound_at true x m h = h
bound_at false x m h = omega arith

pub sum_bound : (who : ℕ → Bool) (f : ℕ → ℕ) (m a n : ℕ) → ((v : ℕ) → f v ≤ m) → masked_sum who f a n ≤ n * m
unfolding masked_sum
sum_bound who f m a zero each = omega arith
sum_bound who f m a (suc n) each = omega (arith, bound_at (who a) (f a) m (each a), sum_bound who f m (a + 1) n each)

-- as the definitions have it
first_of : (f : ℕ → ℕ) (b : Bool) (x : ℕ) (us : List ℕ) → cond b (f x) 0 + sum (map f us) ≡ sum (map f (cond b (x ∷ us) us))
first_of f true x us = ap (λ t. t + sum (map f us)) (let e : f x ≡ 0 + f x = omega arith in e) ∙ sym (sum_by-append (λ y. y) (f x ∷ []) (map f us))
first_of f false x us = let e : 0 + sum (map f us) ≡ sum (map f us) = omega arith in e

pub sum_is : (who : ℕ → Bool) (f : ℕ → ℕ) (a n : ℕ) → masked_sum who f a n ≡ sum (values_where who f (range_with_len a n))
unfolding masked_sum
sum_is who f a zero = refl
sum_is who f a (suc n) = ap (λ t. cond (who a) (f a) 0 + t) (sum_is who f (a + 1) n) ∙ first_of f (who a) a (filter who (range_with_len (a + 1) n))

-- the bits of a word from one on, summed
digits_from : (who : ℕ → Bool) (f : ℕ → ℕ) (z s k a : ℕ) → z < 2 ^ 64 → a + k ≡ 64 → ((i : ℕ) → i < 64 → cond (who (s + i)) (f (s + i)) 0 ≡ bit_at z i) → masked_sum who f (s + a) k ≡ count_ones (z / 2 ^ a)
unfolding masked_sum
digits_from who f z s zero a small e each =
    let top : z / 2 ^ a ≡ 0 = ap (λ b. z / 2 ^ b) (let q : a ≡ 64 = omega arith in q) ∙ omega (arith, small) in
    sym (ap count_ones top ∙ (let q : count_ones 0 ≡ 0 = omega (arith, ones-le 0 0 (omega arith)) in q))
digits_from who f z s (suc k) a small e each =
    let half : z / 2 ^ a / 2 ≡ z / 2 ^ (a + 1) = shr-shr z a 1 in
    ap (λ t. t + masked_sum who f (s + a + 1) k) (each a (omega arith))
    ∙ ap (λ t. z / 2 ^ a % 2 + t) (ap (λ b. masked_sum who f b k) (let q : s + a + 1 ≡ s + (a + 1) = omega arith in q) ∙ digits_from who f z s k (a + 1) small (omega arith) each ∙ ap count_ones (sym half))
    ∙ sym (ones_step (z / 2 ^ a))

-- a bit of the "and" of two words
both_at : (x m : Bool) → cond m (bit x) 0 ≡ bit (x && m)
both_at true true = refl
both_at true false = refl
both_at false true = refl
both_at false false = refl

bit_of_word : (z i : ℕ) → bit (word_bit z i) ≡ bit_at z i
unfolding word_bit
bit_of_word z i = grind (arith, nat_tests, bit_at-lt z i)

-- the 64 processors of a block
pub block_sum : (x mask : List Bool) (b wx wm : ℕ) → bit_and wx wm < 2 ^ 64 → ((i : ℕ) → i < 64 → word_bit wx i ≡ get_or x (64 * b + i) false) → ((i : ℕ) → i < 64 → word_bit wm i ≡ get_or mask (64 * b + i) false)
    → masked_sum (has mask) (bit_in x) (64 * b) 64 ≡ count_ones (bit_and wx wm)
block_sum x mask b wx wm small is_x is_m =
    ap (λ s. masked_sum (has mask) (bit_in x) s 64) (let e : 64 * b ≡ 64 * b + 0 = omega arith in e)
    ∙ digits_from (has mask) (bit_in x) (bit_and wx wm) (64 * b) 64 0 small refl (λ i h.
    ap (λ p. cond (get_or mask (64 * b + i) false) (bit p) 0) (sym (is_x i h)) ∙ ap (λ m. cond m (bit (word_bit wx i)) 0) (sym (is_m i h))
    ∙ both_at (word_bit wx i) (word_bit wm i) ∙ ap bit (sym (and_by_bit wx wm i)) ∙ bit_of_word (bit_and wx wm) i)
    ∙ ap count_ones (let e : bit_and wx wm / 2 ^ 0 ≡ bit_and wx wm = omega arith in e)

-- the sum of the higher planes of 96 at most
pub tops_small : (who : ℕ → Bool) (ps : List (List Bool)) (k a n : ℕ) → length ps ≤ 96 → masked_sum who (number_at (drop k ps)) a n ≤ n * 2 ^ 96
tops_small who ps k a n narrow =
    sum_bound who (number_at (drop k ps)) (2 ^ 96) a n (λ v.
    omega (arith, number_at_lt (drop k ps) v, pow_mono (let h : length (drop k ps) ≤ 96 = omega (arith, length-drop k ps) in h)))
