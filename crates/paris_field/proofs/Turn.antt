-- What the exchange of two rows of a square of bits does to each bit, and six exchanges together.
use Rattle.std.proofs.Common.{◌≡◌, ℕ, zero, suc, ◌+◌, ◌-◌, ◌*◌, ◌/◌, ◌%◌, ◌^◌, ◌<◌, ◌≤◌, ◌≢◌, Bool, false, cond, List, get_or, set, length, arith, ap, ◌∙◌, sym, eqb, bit_and, bit_xor, add-zero, inl, inr, refl}
use Rattle.std.specs.Int.{bit_at}
use Rattle.std.proofs.Math.Nat.{div-div-eq-div-mul, mul-add, mul-suc, pow-succ'}
use Rattle.std.proofs.lemmas.Bool.{cases_lt}
use Rattle.std.proofs.lemmas.Grind.{get_or-set_at}
use Rattle.std.proofs.lemmas.List.{get_or-set_other, length-set}
use Rattle.std.proofs.lemmas.Nat.Bits.{bit_at_above, bit_at_cat_low, bit_at_cat_high, bit_at-zero}
use Rattle.std.proofs.lemmas.Nat.{pow-add, div-add-mod', mod_below}
use Rattle.paris_plane.specs.Bits.{word_bit}
use Rattle.paris_plane.specs.Laws.{xor_by_bit, and_by_bit}
use Rattle.paris_plane.specs.Digits.{digit, MarksZeros}
use Rattle.paris_plane.proofs.Digits.{digit-add, digit_below, digit_cases}
use Rattle.paris_field.specs.Square.{crossed}

pub shr_bit : (n s i : ℕ) → word_bit (n / 2 ^ s) i ≡ word_bit n (s + i)
unfolding word_bit
shr_bit n s i = ap (λ x. eqb (x % 2) 1) (div-div-eq-div-mul n (2 ^ s) (2 ^ i) ∙ ap (λ p. n / p) (sym (pow-add 2 s i)))

pow-pos : (s : ℕ) → 0 < 2 ^ s
pow-pos zero = omega arith
pow-pos (suc s) = omega (arith, pow-pos s, pow-succ' 2 s)

mod_bit : (n i : ℕ) → i < 64 → bit_at (n % 2 ^ 64) i ≡ bit_at n i
mod_bit n i h = sym (bit_at_cat_low (n / 2 ^ 64) 64 (n % 2 ^ 64) i h) ∙ ap (λ x. bit_at x i) (div-add-mod' n (2 ^ 64))

low_bit : (n i : ℕ) → i < 64 → word_bit (n % 2 ^ 64) i ≡ word_bit n i
unfolding word_bit
low_bit n i h = ap (λ x. eqb x 1) (mod_bit n i h)

-- a bit of the word that is made of the 64 bits from s on
pub word_from : (n s i : ℕ) → i < 64 → word_bit (n / 2 ^ s % 2 ^ 64) i ≡ word_bit n (s + i)
word_from n s i h = low_bit (n / 2 ^ s) i h ∙ shr_bit n s i

-- a bit of the number that is made of the n bits from s on
part_bit : (m n s k : ℕ) → k < n → word_bit (m / 2 ^ s % 2 ^ n) k ≡ word_bit m (s + k)
unfolding word_bit
part_bit m n s k h =
    ap (λ x. eqb x 1) (sym (bit_at_cat_low (m / 2 ^ s / 2 ^ n) n (m / 2 ^ s % 2 ^ n) k h) ∙ ap (λ x. bit_at x k) (div-add-mod' (m / 2 ^ s) (2 ^ n)))
    ∙ shr_bit m s k

part_past : (m n s k : ℕ) → n ≤ k → word_bit (m / 2 ^ s % 2 ^ n) k ≡ false
unfolding word_bit
part_past m n s k h = ap (λ x. eqb x 1) (bit_at_above (m / 2 ^ s % 2 ^ n) n k (mod_below (m / 2 ^ s) (2 ^ n) (pow-pos n)) h)

-- where it has 8 bits, 16 or 32
pub eighth_bit : (n s k : ℕ) → k < 8 → word_bit (n / 2 ^ s % 2 ^ 8) k ≡ word_bit n (s + k)
eighth_bit n s k h = part_bit n 8 s k h

pub eighth_past : (n s k : ℕ) → 8 ≤ k → word_bit (n / 2 ^ s % 2 ^ 8) k ≡ false
eighth_past n s k h = part_past n 8 s k h

pub quarter_bit : (n s k : ℕ) → k < 16 → word_bit (n / 2 ^ s % 2 ^ 16) k ≡ word_bit n (s + k)
quarter_bit n s k h = part_bit n 16 s k h

pub quarter_past : (n s k : ℕ) → 16 ≤ k → word_bit (n / 2 ^ s % 2 ^ 16) k ≡ false
quarter_past n s k h = part_past n 16 s k h

pub half_bit : (n s k : ℕ) → k < 32 → word_bit (n / 2 ^ s % 2 ^ 32) k ≡ word_bit n (s + k)
half_bit n s k h = part_bit n 32 s k h

pub half_past : (n s k : ℕ) → 32 ≤ k → word_bit (n / 2 ^ s % 2 ^ 32) k ≡ false
half_past n s k h = part_past n 32 s k h

-- a bit of the lowest 16 bits of four words side by side
above_bit : (high low i : ℕ) → 16 ≤ i → word_bit (high * 2 ^ 16 + low % 2 ^ 16) i ≡ word_bit high (i - 16)
unfolding word_bit
above_bit high low i h = ap (λ x. eqb x 1) (bit_at_cat_high high 16 (low % 2 ^ 16) i (mod_below low (2 ^ 16) (pow-pos 16)) h)

below_bit : (high low i : ℕ) → i < 16 → word_bit (high * 2 ^ 16 + low % 2 ^ 16) i ≡ word_bit low i
unfolding word_bit
below_bit high low i h =
    ap (λ x. eqb x 1) (bit_at_cat_low high 16 (low % 2 ^ 16) i h ∙ sym (bit_at_cat_low (low / 2 ^ 16) 16 (low % 2 ^ 16) i h) ∙ ap (λ x. bit_at x i) (div-add-mod' low (2 ^ 16)))

last_bit : (low i : ℕ) → i < 16 → word_bit (low % 2 ^ 16) i ≡ word_bit low i
unfolding word_bit
last_bit low i h = ap (λ x. eqb x 1) (sym (bit_at_cat_low (low / 2 ^ 16) 16 (low % 2 ^ 16) i h) ∙ ap (λ x. bit_at x i) (div-add-mod' low (2 ^ 16)))

pub joined_bit : (words : List ℕ) (j i : ℕ) → i < 64
    → word_bit (((get_or words (48 + j) 0 % 2 ^ 16 * 2 ^ 16 + get_or words (32 + j) 0 % 2 ^ 16) * 2 ^ 16 + get_or words (16 + j) 0 % 2 ^ 16) * 2 ^ 16 + get_or words j 0 % 2 ^ 16) i ≡ word_bit (get_or words (i / 16 * 16 + j) 0) (i % 16)
joined_bit words j i h =
    let a : ℕ = get_or words j 0 in
    let b : ℕ = get_or words (16 + j) 0 in
    let c : ℕ = get_or words (32 + j) 0 in
    let d : ℕ = get_or words (48 + j) 0 in
    let three : ℕ = (d % 2 ^ 16 * 2 ^ 16 + c % 2 ^ 16) * 2 ^ 16 + b % 2 ^ 16 in
    let two : ℕ = d % 2 ^ 16 * 2 ^ 16 + c % 2 ^ 16 in
    let placed : (v k : ℕ) → v ≡ i / 16 * 16 + j → k ≡ i % 16 → word_bit (get_or words v 0) k ≡ word_bit (get_or words (i / 16 * 16 + j) 0) (i % 16) = λ v k ev ek.
    ap (λ x. word_bit (get_or words x 0) k) ev ∙ ap (word_bit (get_or words (i / 16 * 16 + j) 0)) ek in
    elim (cases_lt i 16) [
      | inl one ↦ below_bit three a i one ∙ placed j i (omega arith) (omega arith)
      | inr over_one ↦
          above_bit three a i over_one
          ∙ elim (cases_lt i 32) [
            | inl second ↦ below_bit two b (i - 16) (omega arith) ∙ placed (16 + j) (i - 16) (omega arith) (omega arith)
            | inr over_two ↦
                above_bit two b (i - 16) (omega arith)
                ∙ elim (cases_lt i 48) [
                  | inl third ↦ below_bit (d % 2 ^ 16) c (i - 16 - 16) (omega arith) ∙ placed (32 + j) (i - 16 - 16) (omega arith) (omega arith)
                  | inr over_three ↦
                      above_bit (d % 2 ^ 16) c (i - 16 - 16) (omega arith)
                      ∙ last_bit d (i - 16 - 16 - 16) (omega arith) ∙ placed (48 + j) (i - 16 - 16 - 16) (omega arith) (omega arith)
                ]
          ]
    ]

-- a bit of the lowest 32 bits of two words side by side
pub pair_bit : (words : List ℕ) (j i : ℕ) → i < 64 → word_bit (get_or words (32 + j) 0 % 2 ^ 32 * 2 ^ 32 + get_or words j 0 % 2 ^ 32) i ≡ word_bit (get_or words (i / 32 * 32 + j) 0) (i % 32)
unfolding word_bit
pair_bit words j i h =
    let a : ℕ = get_or words j 0 in
    let b : ℕ = get_or words (32 + j) 0 in
    let low : (n k : ℕ) → k < 32 → word_bit (n % 2 ^ 32) k ≡ word_bit n k = λ n k below.
    ap (λ x. eqb x 1) (sym (bit_at_cat_low (n / 2 ^ 32) 32 (n % 2 ^ 32) k below) ∙ ap (λ x. bit_at x k) (div-add-mod' n (2 ^ 32))) in
    let placed : (v k : ℕ) → v ≡ i / 32 * 32 + j → k ≡ i % 32 → word_bit (get_or words v 0) k ≡ word_bit (get_or words (i / 32 * 32 + j) 0) (i % 32) = λ v k ev ek.
    ap (λ x. word_bit (get_or words x 0) k) ev ∙ ap (word_bit (get_or words (i / 32 * 32 + j) 0)) ek in
    elim (cases_lt i 32) [
      | inl first ↦
          ap (λ x. eqb x 1) (bit_at_cat_low (b % 2 ^ 32) 32 (a % 2 ^ 32) i first) ∙ low a i first ∙ placed j i (omega arith) (omega arith)
      | inr second ↦
          ap (λ x. eqb x 1) (bit_at_cat_high (b % 2 ^ 32) 32 (a % 2 ^ 32) i (mod_below a (2 ^ 32) (pow-pos 32)) second)
          ∙ low b (i - 32) (omega arith) ∙ placed (32 + j) (i - 32) (omega arith) (omega arith)
    ]

shl_low : (t s i : ℕ) → i < s → i < 64 → word_bit (t * 2 ^ s % 2 ^ 64) i ≡ false
unfolding word_bit
shl_low t s i h below = ap (λ x. eqb x 1) (mod_bit (t * 2 ^ s) i below ∙ ap (λ x. bit_at x i) (sym (add-zero (t * 2 ^ s))) ∙ bit_at_cat_low t s 0 i h ∙ bit_at-zero i)

shl_high : (t s i : ℕ) → s ≤ i → i < 64 → word_bit (t * 2 ^ s % 2 ^ 64) i ≡ word_bit t (i - s)
unfolding word_bit
shl_high t s i h below = ap (λ x. eqb x 1) (mod_bit (t * 2 ^ s) i below ∙ ap (λ x. bit_at x i) (sym (add-zero (t * 2 ^ s))) ∙ bit_at_cat_high t s 0 i (pow-pos s) h)

-- what two rows exchange
abbrev exchanged : ℕ → ℕ → ℕ → ℕ → ℕ
exchanged x y s m = bit_and (bit_xor (x / 2 ^ s) y) m

upper_of_lower : (x y s m i : ℕ) → word_bit (bit_xor y (exchanged x y s m)) i ≡ cond (word_bit m i) (word_bit x (s + i)) (word_bit y i)
upper_of_lower x y s m i = grind (arith, xor_by_bit y (exchanged x y s m) i, and_by_bit (bit_xor (x / 2 ^ s) y) m i, xor_by_bit (x / 2 ^ s) y i, shr_bit x s i)

stays_low : (x y s m i : ℕ) → i < s → i < 64 → word_bit (bit_xor x (exchanged x y s m * 2 ^ s % 2 ^ 64)) i ≡ word_bit x i
stays_low x y s m i h below = grind (arith, xor_by_bit x (exchanged x y s m * 2 ^ s % 2 ^ 64) i, shl_low (exchanged x y s m) s i h below)

lower_of_upper : (x y s m i : ℕ) → s ≤ i → i < 64 → word_bit (bit_xor x (exchanged x y s m * 2 ^ s % 2 ^ 64)) i ≡ cond (word_bit m (i - s)) (word_bit y (i - s)) (word_bit x i)
lower_of_upper x y s m i h below =
    let back : word_bit x (s + (i - s)) ≡ word_bit x i = ap (word_bit x) (omega arith) in
    grind (arith, back, xor_by_bit x (exchanged x y s m * 2 ^ s % 2 ^ 64) i, shl_high (exchanged x y s m) s i h below, and_by_bit (bit_xor (x / 2 ^ s) y) m (i - s), xor_by_bit (x / 2 ^ s) y (i - s), shr_bit x s (i - s))

-- the two words of an exchange
pub lower_word : (x y s m i : ℕ) → MarksZeros s m → i < 64 → word_bit (bit_xor y (exchanged x y s m)) i ≡ cond (eqb (digit s i) 0) (word_bit x (i + s)) (word_bit y i)
lower_word x y s m i marks h =
    upper_of_lower x y s m i ∙ ap (λ b. cond b (word_bit x (s + i)) (word_bit y i)) (marks i h)
    ∙ ap (λ k. cond (eqb (digit s i) 0) (word_bit x k) (word_bit y i)) (omega arith)

test_back : (s i : ℕ) → 0 < s → s ≤ i → (a b : Bool) → cond (eqb (digit s (i - s)) 0) a b ≡ cond (eqb (digit s i) 0) b a
test_back s i h above a b =
    let e : digit s i ≡ (digit s (i - s) + 1) % 2 = ap (digit s) (omega arith) ∙ digit-add s (i - s) h in
    elim (digit_cases s (i - s)) [
      | inl z ↦
          let w : digit s i ≡ 1 = e ∙ ap (λ t. (t + 1) % 2) z in
          ap (λ t. cond (eqb t 0) a b) z ∙ sym (ap (λ t. cond (eqb t 0) b a) w)
      | inr z ↦
          let w : digit s i ≡ 0 = e ∙ ap (λ t. (t + 1) % 2) z in
          ap (λ t. cond (eqb t 0) a b) z ∙ sym (ap (λ t. cond (eqb t 0) b a) w)
    ]

pub upper_word : (x y s m i : ℕ) → 0 < s → MarksZeros s m → i < 64 → word_bit (bit_xor x (exchanged x y s m * 2 ^ s % 2 ^ 64)) i ≡ cond (eqb (digit s i) 0) (word_bit x i) (word_bit y (i - s))
upper_word x y s m i pos marks h =
    elim (cases_lt i s) [
      | inl below ↦
          stays_low x y s m i below h ∙ sym (ap (λ t. cond (eqb t 0) (word_bit x i) (word_bit y (i - s))) (digit_below s i below))
      | inr above ↦
          lower_of_upper x y s m i above h
          ∙ ap (λ b. cond b (word_bit y (i - s)) (word_bit x i)) (marks (i - s) (omega arith))
          ∙ test_back s i pos above (word_bit y (i - s)) (word_bit x i)
    ]

-- the first of the two rows that are exchanged with this one
abbrev pub first : ℕ → ℕ → ℕ
first s n = n - s * digit s n

first_zero : (s n : ℕ) → digit s n ≡ 0 → first s n ≡ n
first_zero s n e = ap (λ d. n - s * d) e ∙ omega arith

first_one : (s n : ℕ) → digit s n ≡ 1 → first s n ≡ n - s
first_one s n e = ap (λ d. n - s * d) e ∙ omega arith

pub one_at_least : (s n : ℕ) → digit s n ≡ 1 → s ≤ n
one_at_least s n e =
    elim (cases_lt n s) [ inl below ↦ absurd (omega (arith, e, digit_below s n below)) | inr above ↦ above ]

digit_first : (s n : ℕ) → 0 < s → digit s (first s n) ≡ 0
digit_first s n h =
    elim (digit_cases s n) [
      | inl e ↦ ap (digit s) (first_zero s n e) ∙ e
      | inr e ↦
          let above : s ≤ n = one_at_least s n e in
          let more : digit s n ≡ (digit s (n - s) + 1) % 2 = ap (digit s) (omega arith) ∙ digit-add s (n - s) h in
          let back : digit s (n - s) ≡ 0 = elim (digit_cases s (n - s)) [ inl z ↦ z | inr z ↦ absurd (omega (arith, e, more, z)) ] in
          ap (digit s) (first_one s n e) ∙ back
    ]

crossed_is : (s n m a b : ℕ) → digit s n ≡ a → digit s m ≡ b → crossed s n m ≡ n - s * a + s * b
crossed_is s n m a b e f =
    ap (λ d. n - s * d + s * digit s m) e ∙ ap (λ d. n - s * a + s * d) f

-- the place of a bit after the exchange, by the two digits
placed : (old : List ℕ) (s j i a b row place : ℕ) → digit s j ≡ a → digit s i ≡ b → row ≡ j - s * a + s * b → place ≡ i - s * b + s * a → word_bit (get_or old row 0) place ≡ word_bit (get_or old (crossed s j i) 0) (crossed s i j)
placed old s j i a b row place e f r p =
    ap (λ t. word_bit (get_or old t 0) place) (r ∙ sym (crossed_is s j i a b e f))
    ∙ ap (word_bit (get_or old (crossed s j i) 0)) (p ∙ sym (crossed_is s i j b a f e))

pub upper_placed : (old : List ℕ) (s j i : ℕ) → digit s j ≡ 0 → cond (eqb (digit s i) 0) (word_bit (get_or old j 0) i) (word_bit (get_or old (j + s) 0) (i - s)) ≡ word_bit (get_or old (crossed s j i) 0) (crossed s i j)
upper_placed old s j i e =
    elim (digit_cases s i) [
      | inl z ↦
          ap (λ t. cond (eqb t 0) (word_bit (get_or old j 0) i) (word_bit (get_or old (j + s) 0) (i - s))) z
          ∙ placed old s j i 0 0 j i e z (omega arith) (omega arith)
      | inr z ↦
          ap (λ t. cond (eqb t 0) (word_bit (get_or old j 0) i) (word_bit (get_or old (j + s) 0) (i - s))) z
          ∙ placed old s j i 0 1 (j + s) (i - s) e z (omega arith) (omega arith)
    ]

pub lower_placed : (old : List ℕ) (s j i : ℕ) → 0 < s → digit s j ≡ 0 → cond (eqb (digit s i) 0) (word_bit (get_or old j 0) (i + s)) (word_bit (get_or old (j + s) 0) i) ≡ word_bit (get_or old (crossed s (j + s) i) 0) (crossed s i (j + s))
lower_placed old s j i pos e =
    let one : digit s (j + s) ≡ 1 = digit-add s j pos ∙ ap (λ t. (t + 1) % 2) e in
    elim (digit_cases s i) [
      | inl z ↦
          ap (λ t. cond (eqb t 0) (word_bit (get_or old j 0) (i + s)) (word_bit (get_or old (j + s) 0) i)) z
          ∙ placed old s (j + s) i 1 0 j (i + s) one z (omega arith) (omega arith)
      | inr z ↦
          let above : s ≤ i = one_at_least s i z in
          ap (λ t. cond (eqb t 0) (word_bit (get_or old j 0) (i + s)) (word_bit (get_or old (j + s) 0) i)) z
          ∙ placed old s (j + s) i 1 1 (j + s) i one z (omega arith) (omega arith)
    ]

-- the digit is 0 in the first half of each block of 2 * s
pub digit_block : (s b r : ℕ) → 0 < s → r < s → digit s (2 * s * b + r) ≡ 0
digit_block s zero r pos h = ap (digit s) (omega arith) ∙ digit_below s r h
digit_block s (suc b) r pos h =
    let more : 2 * s * suc b + r ≡ 2 * s * b + r + s + s = omega (arith, mul-suc (2 * s) b) in
    ap (digit s) more ∙ digit-add s (2 * s * b + r + s) pos
    ∙ ap (λ t. (t + 1) % 2) (digit-add s (2 * s * b + r) pos ∙ ap (λ t. (t + 1) % 2) (digit_block s b r pos h))

-- the rows as far as the exchanges have come: those below start are done, the others are as they were
pub record Halfway (s start : ℕ) (rows old : List ℕ) : Type 0 where
  pub done : (j i : ℕ) → j < start → i < 64 → word_bit (get_or rows j 0) i ≡ word_bit (get_or old (crossed s j i) 0) (crossed s i j)
  pub left : (j : ℕ) → start ≤ j → get_or rows j 0 ≡ get_or old j 0

-- a block of rows as far as its loop has come: each row from start to end has been exchanged with the row s rows above it
pub record Exchanged (s start end : ℕ) (rows old : List ℕ) : Type 0 where
  pub upper : (j i : ℕ) → start ≤ j → j < end → i < 64 → word_bit (get_or rows j 0) i ≡ cond (eqb (digit s i) 0) (word_bit (get_or old j 0) i) (word_bit (get_or old (j + s) 0) (i - s))
  pub lower : (j i : ℕ) → start ≤ j → j < end → i < 64 → word_bit (get_or rows (j + s) 0) i ≡ cond (eqb (digit s i) 0) (word_bit (get_or old j 0) (i + s)) (word_bit (get_or old (j + s) 0) i)
  pub others : (j : ℕ) → (start ≤ j → end ≤ j) → (start + s ≤ j → end + s ≤ j) → get_or rows j 0 ≡ get_or old j 0

pub exchanged_none : (s start : ℕ) (rows : List ℕ) → Exchanged s start start rows rows
exchanged_none s start rows =
    record {
      upper = λ j i from below hi. absurd (omega (arith, from, below));
      lower = λ j i from below hi. absurd (omega (arith, from, below));
      others = λ j _ _. refl;
    }

pub exchanged_more : (s start j a b : ℕ) (rows old : List ℕ) → length rows ≡ 64 → 0 < s → j + s < 64 → start ≤ j → j < start + s
    → ((i : ℕ) → i < 64 → word_bit a i ≡ cond (eqb (digit s i) 0) (word_bit (get_or rows j 0) i) (word_bit (get_or rows (j + s) 0) (i - s)))
    → ((i : ℕ) → i < 64 → word_bit b i ≡ cond (eqb (digit s i) 0) (word_bit (get_or rows j 0) (i + s)) (word_bit (get_or rows (j + s) 0) i))
    → Exchanged s start j rows old → Exchanged s start (j + 1) (set (set rows j a) (j + s) b) old
exchanged_more s start j a b rows old long pos room from below upper lower h =
    let old_j : get_or rows j 0 ≡ get_or old j 0 = h.others j (λ _. omega arith) (λ above. absurd (omega (arith, above, below))) in
    let old_js : get_or rows (j + s) 0 ≡ get_or old (j + s) 0 = h.others (j + s) (λ _. omega arith) (λ _. omega arith) in
    let apart : j ≢ j + s = omega arith in
    let at_j : get_or (set (set rows j a) (j + s) b) j 0 ≡ a = get_or-set_other (set rows j a) (j + s) j b 0 apart ∙ get_or-set_at rows j j a 0 refl (omega arith) in
    let at_js : get_or (set (set rows j a) (j + s) b) (j + s) 0 ≡ b = get_or-set_at (set rows j a) (j + s) (j + s) b 0 refl (omega (arith, length-set rows j a)) in
    let others : (x : ℕ) → x ≢ j → x ≢ j + s → get_or (set (set rows j a) (j + s) b) x 0 ≡ get_or rows x 0 = λ x n m. get_or-set_other (set rows j a) (j + s) x b 0 m ∙ get_or-set_other rows j x a 0 n in
    record {
      upper = λ x i hx hb hi.
          elim (cases_lt x j) [
            | inl under ↦
                ap (λ w. word_bit w i) (others x (λ e. absurd (omega (arith, under, e))) (λ e. absurd (omega (arith, under, e)))) ∙ h.upper x i hx under hi
            | inr over ↦
                let e : x ≡ j = omega arith in
                ap (λ y. word_bit (get_or (set (set rows j a) (j + s) b) y 0) i) e ∙ ap (λ w. word_bit w i) at_j ∙ upper i hi
                ∙ ap (λ w. cond (eqb (digit s i) 0) (word_bit w i) (word_bit (get_or rows (j + s) 0) (i - s))) old_j
                ∙ ap (λ w. cond (eqb (digit s i) 0) (word_bit (get_or old j 0) i) (word_bit w (i - s))) old_js
                ∙ ap (λ y. cond (eqb (digit s i) 0) (word_bit (get_or old y 0) i) (word_bit (get_or old (y + s) 0) (i - s))) (sym e)
          ];
      lower = λ x i hx hb hi.
          elim (cases_lt x j) [
            | inl under ↦
                ap (λ w. word_bit w i) (others (x + s) (λ e. absurd (omega (arith, hx, below, e))) (λ e. absurd (omega (arith, under, e)))) ∙ h.lower x i hx under hi
            | inr over ↦
                let e : x ≡ j = omega arith in
                ap (λ y. word_bit (get_or (set (set rows j a) (j + s) b) (y + s) 0) i) e ∙ ap (λ w. word_bit w i) at_js ∙ lower i hi
                ∙ ap (λ w. cond (eqb (digit s i) 0) (word_bit w (i + s)) (word_bit (get_or rows (j + s) 0) i)) old_j
                ∙ ap (λ w. cond (eqb (digit s i) 0) (word_bit (get_or old j 0) (i + s)) (word_bit w i)) old_js
                ∙ ap (λ y. cond (eqb (digit s i) 0) (word_bit (get_or old y 0) (i + s)) (word_bit (get_or old (y + s) 0) i)) (sym e)
          ];
      others = λ x first second.
          others x (λ e. absurd (omega (arith, first (omega (arith, from, e)), e))) (λ e. absurd (omega (arith, second (omega (arith, from, e)), e)))
          ∙ h.others x (λ above. omega (arith, first above)) (λ above. omega (arith, second above));
    }

-- a block of which each row has been exchanged is done
pub halfway_block : (s b : ℕ) (new rows old : List ℕ) → 0 < s → Exchanged s (2 * s * b) (2 * s * b + s) new rows → Halfway s (2 * s * b) rows old → Halfway s (2 * s * (b + 1)) new old
halfway_block s b new rows old pos block h =
    let start : ℕ = 2 * s * b in
    let next : 2 * s * (b + 1) ≡ 2 * s * b + 2 * s = omega (arith, mul-add (2 * s) b 1) in
    let zero_at : (j : ℕ) → start ≤ j → j < start + s → digit s j ≡ 0 = λ j from below. ap (digit s) (omega (arith, from)) ∙ digit_block s b (j - start) pos (omega (arith, from, below)) in
    record {
      done = λ j i hj hi.
          elim (cases_lt j start) [
            | inl under ↦
                ap (λ w. word_bit w i) (block.others j (λ above. absurd (omega (arith, under, above))) (λ above. absurd (omega (arith, under, above)))) ∙ h.done j i under hi
            | inr over ↦
                elim (cases_lt j (start + s)) [
                  | inl first ↦
                      block.upper j i over first hi
                      ∙ ap (λ w. cond (eqb (digit s i) 0) (word_bit w i) (word_bit (get_or rows (j + s) 0) (i - s))) (h.left j over)
                      ∙ ap (λ w. cond (eqb (digit s i) 0) (word_bit (get_or old j 0) i) (word_bit w (i - s))) (h.left (j + s) (omega (arith, over)))
                      ∙ upper_placed old s j i (zero_at j over first)
                  | inr second ↦
                      let k : ℕ = j - s in
                      let e : k + s ≡ j = omega (arith, second) in
                      let from : start ≤ k = omega (arith, second) in
                      let below : k < start + s = omega (arith, second, hj, next, e) in
                      ap (λ y. word_bit (get_or new y 0) i) (sym e) ∙ block.lower k i from below hi
                      ∙ ap (λ w. cond (eqb (digit s i) 0) (word_bit w (i + s)) (word_bit (get_or rows (k + s) 0) i)) (h.left k from)
                      ∙ ap (λ w. cond (eqb (digit s i) 0) (word_bit (get_or old k 0) (i + s)) (word_bit w i)) (h.left (k + s) (omega (arith, from)))
                      ∙ lower_placed old s k i pos (zero_at k from below)
                      ∙ ap (λ y. word_bit (get_or old (crossed s y i) 0) (crossed s i y)) e
                ]
          ];
      left = λ j above. block.others j (λ _. omega (arith, above, next)) (λ _. omega (arith, above, next)) ∙ h.left j (omega (arith, above, next));
    }
