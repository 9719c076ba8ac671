-- Words that mark the processors whose numbers are other than 0.
use Rattle.std.proofs.Common.{◌≡◌, ℕ, zero, suc, ◌+◌, ◌*◌, ◌/◌, ◌%◌, ◌^◌, ◌<◌, ◌≤◌, Bool, true, false, ◌||◌, cond, List, [], ◌∷◌, ◌++◌, map, arith, ◌∙◌, sym, ap, refl}
use Rattle.std.specs.Prelude.{count_ones}
use Rattle.std.specs.Int.{bit_at}
use Rattle.std.specs.Int.Count.{ones_step}
use lib.Count.{ones-le}
use Rattle.std.specs.List.{count_by, range_with_len}
use Rattle.std.proofs.Math.Nat.{pow-succ'}
use Rattle.std.proofs.lemmas.List.Sums.{sum_by-append}
use Rattle.std.proofs.lemmas.Nat.{mod-pow-add}
use Rattle.std.proofs.lemmas.Nat.Bits.{bit_at-lt}
use Rattle.std.proofs.lemmas.Bool.Decides.{nat_tests}
use Rattle.paris_model.specs.Store.{bit}
use Rattle.paris_plane.specs.Bits.{word_bit}
use Rattle.paris_field.proofs.Turn.{shr_bit}
use Rattle.paris_stretches.specs.Stretches.{count_others, is_other}

-- a number with one digit more
pub other_more : (b : Bool) (rest n : ℕ) → n ≡ bit b + 2 * rest → (is_other rest || b) ≡ is_other n
other_more true rest n e = grind (arith, nat_tests, e)
other_more false rest n e = grind (arith, nat_tests, e)

-- the lowest digit of a word, and the rest of its low digits
low_digit : (z k : ℕ) → z % 2 ^ suc k ≡ 2 * (z / 2 % 2 ^ k) + z % 2
low_digit z k =
    let e : z % 2 ^ suc k ≡ z % 2 ^ (k + 1) = ap (λ t. z % 2 ^ t) (let q : suc k ≡ k + 1 = omega arith in q) in
    omega (arith, e, mod-pow-add z k 1)

ones_low : (z k : ℕ) → count_ones (z % 2 ^ suc k) ≡ z % 2 + count_ones (z / 2 % 2 ^ k)
ones_low z k =
    let low : z % 2 ^ suc k % 2 ≡ z % 2 = omega (arith, low_digit z k) in
    let high : z % 2 ^ suc k / 2 ≡ z / 2 % 2 ^ k = omega (arith, low_digit z k) in
    ones_step (z % 2 ^ suc k) ∙ ap (λ t. t + count_ones (z % 2 ^ suc k / 2)) low ∙ ap (λ t. z % 2 + count_ones t) high

digit_of : (z : ℕ) → cond (word_bit z 0) 1 0 ≡ z % 2
unfolding word_bit
digit_of z = grind (arith, nat_tests, bit_at-lt z 0)

-- one more number
count_first : (p : ℕ → Bool) (x : ℕ) (xs : List ℕ) → cond (p x) 1 0 + count_by p xs ≡ count_by p (x ∷ xs)
count_first p x xs = ap (λ t. t + count_by p xs) (let e : cond (p x) 1 0 ≡ 0 + cond (p x) 1 0 = omega arith in e) ∙ sym (sum_by-append (λ y. cond (p y) 1 0) (x ∷ []) xs)

-- the marks of a word, counted
pub marked : (p : ℕ → Bool) (f : ℕ → ℕ) (z s k : ℕ) → ((i : ℕ) → i < k → word_bit z i ≡ p (f (s + i))) → count_ones (z % 2 ^ k) ≡ count_by p (map f (range_with_len s k))
marked p f z s zero each = ap count_ones (let q : z % 2 ^ 0 ≡ 0 = omega arith in q) ∙ (let q : count_ones 0 ≡ 0 = omega (arith, ones-le 0 0 (omega arith)) in q)
marked p f z s (suc k) each =
    let first : cond (p (f s)) 1 0 ≡ z % 2 = ap (λ b. cond b 1 0) (ap (λ v. p (f v)) (let e : s ≡ s + 0 = omega arith in e) ∙ sym (each 0 (omega arith))) ∙ digit_of z in
    let rest : count_ones (z / 2 % 2 ^ k) ≡ count_by p (map f (range_with_len (s + 1) k)) =
    marked p f (z / 2) (s + 1) k (λ i h. shr_bit z 1 i ∙ ap (word_bit z) (let e : 1 + i ≡ suc i = omega arith in e) ∙ each (suc i) (omega (arith, h)) ∙ ap (λ v. p (f v)) (let e : s + suc i ≡ s + 1 + i = omega arith in e)) in
    ones_low z k ∙ ap (λ t. t + count_ones (z / 2 % 2 ^ k)) (sym first) ∙ ap (λ t. cond (p (f s)) 1 0 + t) rest
    ∙ count_first p (f s) (map f (range_with_len (s + 1) k))

pub count_joined : (xs ys : List ℕ) → count_others xs + count_others ys ≡ count_others (xs ++ ys)
count_joined xs ys = sym (sum_by-append (λ x. cond (is_other x) 1 0) xs ys)
