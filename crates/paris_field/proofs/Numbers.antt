-- Numbers from planes: one plane more, and a step of an addition.
use Rattle.std.proofs.Common.{◌≡◌, ℕ, zero, suc, ◌+◌, ◌<◌, ◌≤◌, ◌*◌, ◌%◌, ◌/◌, ◌^◌, List, [], ◌∷◌, Bool, true, length, get_or, take, refl, arith, ◌∙◌, sym, ap, set, add-one, false, inl, inr, subst, drop, cond, replicate, leb, add-zero, mul-one, eqb}
use Rattle.std.proofs.Math.Nat.{pow-succ', mul_assoc, mul-add, mul_comm, add_comm}
use Rattle.paris_plane.specs.Bits.{sum_bit, carry_bit}
use Rattle.paris_plane.specs.Bits.{zip3}
use Rattle.paris_plane.proofs.Bits.{get_or-zip3}
use Rattle.std.proofs.lemmas.Grind.{get_or-set_at}
use Rattle.std.proofs.lemmas.List.{get_or-set_other, length-set, take-set-le, length-take-le, get_or-drop, drop-set-lt, drop-drop, drop_more, length-drop}
use Rattle.std.proofs.lemmas.Bool.Decides.{nat_tests}
use Rattle.std.proofs.lemmas.Nat.{mod-mul-add, div-mul-add}
use Rattle.std.proofs.Math.Seq.{drop-length}
use Rattle.std.proofs.Math.Pow.{pow_mono}
use Rattle.std.proofs.lemmas.Bool.{cases_eq}
use Rattle.std.proofs.lemmas.List.FromFn.{fill_by_all}
use Rattle.paris_model.specs.Store.{bit, put}
use Rattle.paris_field.specs.Numbers.{bit_in, plane_at, number_at, AllOf}

double_pow : (k b : ℕ) → 2 ^ suc k * b ≡ 2 * (2 ^ k * b)
double_pow k b = ap (λ p. p * b) (pow-succ' 2 k) ∙ mul_assoc 2 (2 ^ k) b

-- the planes below k + 1
pub number_at_more : (ps : List (List Bool)) (k v : ℕ) → k < length ps → number_at (take (suc k) ps) v ≡ number_at (take k ps) v + 2 ^ k * bit_in (plane_at ps k) v
unfolding number_at
number_at_more [] k v h = absurd (omega (arith, h))
number_at_more (p ∷ ps) zero v h = omega arith
number_at_more (p ∷ ps) (suc k) v h =
    omega (arith, number_at_more ps k v (omega (arith, h)), double_pow k (bit_in (plane_at ps k) v))

-- one step of an addition
pub step_of_bits : (x y c : Bool) → bit (sum_bit x y c) + 2 * bit (carry_bit x y c) ≡ bit x + bit y + bit c
unfolding sum_bit carry_bit
step_of_bits true true true = refl
step_of_bits true true false = refl
step_of_bits true false true = refl
step_of_bits true false false = refl
step_of_bits false true true = refl
step_of_bits false true false = refl
step_of_bits false false true = refl
step_of_bits false false false = refl

-- the step of a loop over planes: s and d are the numbers below k and the carry, and so on
pub step_of_numbers : (p sn xn yn c0 s x y c d : ℕ) → s + 2 * d ≡ x + y + c → sn + p * c ≡ xn + yn + c0 → (sn + p * s) + (2 * p) * d ≡ (xn + p * x) + (yn + p * y) + c0
step_of_numbers p sn xn yn c0 s x y c d bits below =
    omega (arith, ap (λ t. p * t) bits, below, mul-add p s (2 * d), mul-add p (x + y) c, mul-add p x y, mul_assoc 2 p d, mul_assoc p 2 d, mul_comm p 2)

pub step_at : (x y c s d : List Bool) (v : ℕ) → s ≡ zip3 sum_bit x y c → d ≡ zip3 carry_bit x y c → length x ≡ length y → length x ≡ length c → v < length x → bit_in s v + 2 * bit_in d v ≡ bit_in x v + bit_in y v + bit_in c v
step_at x y c s d v sums carries xy xc h =
    let es : get_or s v false ≡ sum_bit (get_or x v false) (get_or y v false) (get_or c v false) = ap (λ l. get_or l v false) sums ∙ get_or-zip3 sum_bit x y c v false false false false xy xc h in
    let ed : get_or d v false ≡ carry_bit (get_or x v false) (get_or y v false) (get_or c v false) = ap (λ l. get_or l v false) carries ∙ get_or-zip3 carry_bit x y c v false false false false xy xc h in
    ap (λ b. bit b + 2 * bit_in d v) es ∙ ap (λ b. bit (sum_bit (get_or x v false) (get_or y v false) (get_or c v false)) + 2 * bit b) ed
    ∙ step_of_bits (get_or x v false) (get_or y v false) (get_or c v false)

-- one more plane of a list, which is x
pub one_more : (ps : List (List Bool)) (k v : ℕ) (x : List Bool) → k < length ps → x ≡ plane_at ps k → number_at (take (k + 1) ps) v ≡ number_at (take k ps) v + 2 ^ k * bit_in x v
one_more ps k v x h is =
    ap (λ m. number_at (take m ps) v) (add-one k) ∙ number_at_more ps k v h ∙ ap (λ y. number_at (take k ps) v + 2 ^ k * bit_in y v) (sym is)

-- the same where plane k is written
pub one_written : (ps : List (List Bool)) (k v : ℕ) (x : List Bool) → k < length ps → number_at (take (k + 1) (set ps k x)) v ≡ number_at (take k ps) v + 2 ^ k * bit_in x v
one_written ps k v x h =
    one_more (set ps k x) k v x (omega (arith, length-set ps k x)) (sym (get_or-set_at ps k k x [] refl h))
    ∙ ap (λ qs. number_at qs v + 2 ^ k * bit_in x v) (take-set-le k ps k x (omega arith))

pub all_written : (n : ℕ) (ps : List (List Bool)) (k : ℕ) (x : List Bool) → k < length ps → length x ≡ n → AllOf n ps → AllOf n (set ps k x)
all_written n ps k x h long all j below =
    elim (cases_eq j k) [
      | inl e ↦ ap length (get_or-set_at ps k j x [] e h) ∙ long
      | inr e ↦ ap length (get_or-set_other ps k j x [] e) ∙ all j (omega (arith, below, length-set ps k x))
    ]

pub double : (k d : ℕ) → 2 ^ (k + 1) * d ≡ (2 * 2 ^ k) * d
double k d = ap (λ m. 2 ^ m * d) (add-one k) ∙ ap (λ p. p * d) (pow-succ' 2 k)

-- no planes, or those below k and the others
pub number_at_split : (ps : List (List Bool)) (k v : ℕ) → number_at ps v ≡ number_at (take k ps) v + 2 ^ k * number_at (drop k ps) v
unfolding number_at
number_at_split [] zero v = refl
number_at_split [] (suc k) v = omega arith
number_at_split (p ∷ ps) zero v = omega arith
number_at_split (p ∷ ps) (suc k) v = omega (arith, number_at_split ps k v, double_pow k (number_at (drop k ps) v))

pub below_two : (b : Bool) → bit b < 2
below_two true = omega arith
below_two false = omega arith

pub number_at_lt : (ps : List (List Bool)) (v : ℕ) → number_at ps v < 2 ^ length ps
unfolding number_at
number_at_lt [] v = omega arith
number_at_lt (p ∷ ps) v = omega (arith, number_at_lt ps v, below_two (get_or p v false), pow-succ' 2 (length ps))

-- the planes below k and those from k on
number_at_parts : (ps : List (List Bool)) (k v : ℕ) → number_at ps v ≡ number_at (drop k ps) v * 2 ^ k + number_at (take k ps) v
number_at_parts ps k v =
    number_at_split ps k v ∙ add_comm (number_at (take k ps) v) (2 ^ k * number_at (drop k ps) v)
    ∙ ap (λ t. t + number_at (take k ps) v) (mul_comm (2 ^ k) (number_at (drop k ps) v))

low_lt : (ps : List (List Bool)) (k v : ℕ) → k ≤ length ps → number_at (take k ps) v < 2 ^ k
low_lt ps k v h = subst (λ m. number_at (take k ps) v < 2 ^ m) (length-take-le k ps h) (number_at_lt (take k ps) v)

-- the low k planes are the number modulo 2 ^ k
pub number_at_low : (ps : List (List Bool)) (k v : ℕ) → k ≤ length ps → number_at (take k ps) v ≡ number_at ps v % 2 ^ k
number_at_low ps k v h =
    sym (ap (λ t. t % 2 ^ k) (number_at_parts ps k v) ∙ mod-mul-add (number_at (drop k ps) v) (2 ^ k) (number_at (take k ps) v) (low_lt ps k v h))

-- the others are its quotient
pub number_at_high : (ps : List (List Bool)) (k v : ℕ) → k ≤ length ps → number_at ps v / 2 ^ k ≡ number_at (drop k ps) v
number_at_high ps k v h =
    ap (λ t. t / 2 ^ k) (number_at_parts ps k v) ∙ div-mul-add (number_at (drop k ps) v) (2 ^ k) (number_at (take k ps) v) (low_lt ps k v h)

-- the planes from k on, of which the lowest is x
pub number_at_from : (ps : List (List Bool)) (k v : ℕ) (x : List Bool) → k < length ps → x ≡ plane_at ps k → number_at (drop k ps) v ≡ bit_in x v + 2 * number_at (drop (k + 1) ps) v
unfolding number_at
number_at_from ps k v x h is =
    ap (λ l. number_at l v) (drop_more ps k [] h) ∙ ap (λ p. bit_in p v + 2 * number_at (drop (k + 1) ps) v) (sym is)

-- bit k of a number
pub bit_of_number : (ps : List (List Bool)) (k v : ℕ) → k < length ps → number_at ps v / 2 ^ k % 2 ≡ bit_in (plane_at ps k) v
bit_of_number ps k v h =
    ap (λ t. t % 2) (number_at_high ps k v (omega arith) ∙ number_at_from ps k v (plane_at ps k) h refl)
    ∙ omega (arith, below_two (get_or (plane_at ps k) v false))

pub none_above : (ps : List (List Bool)) (v : ℕ) → number_at (drop (length ps) ps) v ≡ 0
unfolding number_at
none_above ps v = ap (λ l. number_at l v) (drop-length ps)

-- a number of 128 planes has room for one bit more
pub room_above : (ps : List (List Bool)) (k v : ℕ) → k < length ps → length ps ≤ 128 → 2 * number_at (drop (k + 1) ps) v + 1 < 2 ^ 128
room_above ps k v h narrow =
    let few : length (drop (k + 1) ps) ≤ 127 = omega (arith, length-drop (k + 1) ps) in
    let below : number_at (drop (k + 1) ps) v < 2 ^ 127 = omega (arith, number_at_lt (drop (k + 1) ps) v, pow_mono few) in
    omega arith

-- one plane is written, and its bit at u stays
pub number_at-set : (ps : List (List Bool)) (k u : ℕ) (x : List Bool) → bit_in x u ≡ bit_in (plane_at ps k) u → number_at (set ps k x) u ≡ number_at ps u
unfolding number_at
number_at-set [] k u x e = refl
number_at-set (p ∷ ps) zero u x e = ap (λ b. b + 2 * number_at ps u) e
number_at-set (p ∷ ps) (suc k) u x e = ap (λ n. bit_in p u + 2 * n) (number_at-set ps k u x e)

-- the lowest bit, and the others
pub odd_bit : (n : ℕ) → bit (eqb (n % 2) 1) ≡ n % 2
odd_bit n = grind (arith, nat_tests)

-- one bit more of a number is put: rest is what is left of it
pub rest_less : (p s rest n : ℕ) → s + p * rest ≡ n → s + p * (rest % 2) + (2 * p) * (rest / 2) ≡ n
rest_less p s rest n e =
    let halves : rest ≡ rest % 2 + 2 * (rest / 2) = omega arith in
    omega (arith, e, ap (λ t. p * t) halves, mul-add p (rest % 2) (2 * (rest / 2)), mul_assoc 2 p (rest / 2), mul_assoc p 2 (rest / 2), mul_comm p 2)

bit_same : (a b : Bool) → bit a ≡ bit b → a ≡ b
bit_same true true e = refl
bit_same true false e = absurd (omega (arith, e))
bit_same false true e = absurd (omega (arith, e))
bit_same false false e = refl

pub same_lists : {X : Type 0} (d : X) (xs ys : List X) → length xs ≡ length ys → ((k : ℕ) → k < length xs → get_or xs k d ≡ get_or ys k d) → xs ≡ ys
same_lists d xs ys long each =
    fill_by_all (λ k. get_or ys k d) xs (length xs) d refl each ∙ sym (fill_by_all (λ k. get_or ys k d) ys (length xs) d (sym long) (λ _ _. refl))

-- planes with the same numbers are the same
pub same_numbers : (n : ℕ) (ps qs : List (List Bool)) → AllOf n ps → AllOf n qs → length ps ≡ length qs → ((v : ℕ) → v < n → number_at ps v ≡ number_at qs v) → ps ≡ qs
same_numbers n ps qs all_ps all_qs long each =
    same_lists [] ps qs long (λ k h.
    let below : k < length qs = omega arith in
    let lp : length (plane_at ps k) ≡ n = all_ps k h in
    same_lists false (plane_at ps k) (plane_at qs k) (lp ∙ sym (all_qs k below)) (λ v g.
    bit_same _ _ (sym (bit_of_number ps k v h) ∙ ap (λ t. t / 2 ^ k % 2) (each v (omega arith)) ∙ bit_of_number qs k v below)))

-- planes of which the low are others' and the high stay
pub number_at_put : (old new other : List (List Bool)) (bits v : ℕ) → bits ≤ length old → bits ≤ length other → number_at (take bits new) v ≡ number_at (take bits other) v → drop bits new ≡ drop bits old → number_at new v ≡ put (number_at old v) (number_at other v) bits
number_at_put old new other bits v ho hx low high =
    omega (arith, number_at_split new bits v, number_at_split old bits v, number_at_low old bits v ho, number_at_low other bits v hx, low, ap (λ ps. 2 ^ bits * number_at ps v) high)

pub zero_bit_in : (n v : ℕ) → bit_in (replicate n false) v ≡ 0
zero_bit_in zero v = refl
zero_bit_in (suc n) zero = refl
zero_bit_in (suc n) (suc v) = zero_bit_in n v

-- a sum below p with what is carried
pub sum_mod : (s p c t : ℕ) → s < p → s + p * c ≡ t → s ≡ t % p
sum_mod s p c t below e =
    sym (ap (λ x. x % p) (sym e ∙ add_comm s (p * c) ∙ ap (λ x. x + s) (mul_comm p c)) ∙ mod-mul-add c p s below)

pub carry_is : (s p t : ℕ) (b : Bool) → s < p → s + p * bit b ≡ t → t < 2 * p → b ≡ leb p t
carry_is s p t true below e fits = grind (arith, nat_tests, e, mul-one p)
carry_is s p t false below e fits = grind (arith, nat_tests, e)

-- the same plane at k
pub plane_of_drop : (k : ℕ) (ps qs : List (List Bool)) → drop k ps ≡ drop k qs → plane_at ps k ≡ plane_at qs k
plane_of_drop k ps qs e =
    ap (λ j. get_or ps j []) (sym (add-zero k)) ∙ sym (get_or-drop k ps 0 []) ∙ ap (λ l. get_or l 0 []) e
    ∙ get_or-drop k qs 0 [] ∙ ap (λ j. get_or qs j []) (add-zero k)

pub dropped_more : (k : ℕ) (ps qs : List (List Bool)) (x : List Bool) → drop k ps ≡ drop k qs → drop (k + 1) (set ps k x) ≡ drop (k + 1) qs
dropped_more k ps qs x e =
    drop-set-lt (k + 1) ps k x (omega arith) ∙ sym (drop-drop 1 k ps) ∙ ap (drop 1) e ∙ drop-drop 1 k qs

pub chosen_more : (b : Bool) (t o n p s y x : ℕ) → n ≡ cond b t o → s ≡ cond b y x → n + p * s ≡ cond b (t + p * y) (o + p * x)
chosen_more true t o n p s y x e f = cc
chosen_more false t o n p s y x e f = cc

pub chosen_digit : (m : Bool) (x y : Bool) → bit (cond m y x) ≡ cond m (bit y) (bit x)
chosen_digit true x y = refl
chosen_digit false x y = refl

pub zero_number : (k n v : ℕ) → number_at (replicate k (replicate n false)) v ≡ 0
unfolding number_at
zero_number zero n v = refl
zero_number (suc k) n v = omega (arith, zero_number k n v, zero_bit_in n v)
