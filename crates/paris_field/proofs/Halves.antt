-- A word of a number's bits, and the numbers of a block of processors.
use Rattle.std.proofs.Common.{◌≡◌, ℕ, zero, suc, ◌+◌, ◌*◌, ◌/◌, ◌%◌, ◌^◌, ◌<◌, ◌≤◌, List, [], ◌∷◌, Bool, true, false, length, get_or, take, drop, min, arith, ap, ◌∙◌, sym, eqb, refl, inl, inr}
use Rattle.std.proofs.Math.Nat.{div-eq_of_lt, mod-eq_of_lt}
use Rattle.std.proofs.Math.Pow.{pow_mono}
use Rattle.std.proofs.lemmas.Bool.{cases_lt}
use Rattle.std.proofs.lemmas.List.{get_or-take, length-take, take_all, drop_all, length-drop}
use Rattle.std.proofs.lemmas.Nat.{mod-pow-add}
use Rattle.paris_model.specs.Store.{bit}
use Rattle.paris_plane.specs.Bits.{word_bit}
use Rattle.paris_plane.specs.Equal.{words_equal}
use Rattle.paris_field.specs.Numbers.{bit_in, number_at, plane_at}
use Rattle.paris_field.proofs.Numbers.{bit_of_number, number_at_lt, number_at_split, odd_bit}
use Rattle.paris_field.proofs.Turn.{shr_bit}

pub get_or-past : {X : Type 0} (xs : List X) (k : ℕ) (d : X) → length xs ≤ k → get_or xs k d ≡ d
get_or-past [] k d h = refl
get_or-past (x ∷ xs) zero d h = absurd (omega (arith, h))
get_or-past (x ∷ xs) (suc k) d h = get_or-past xs k d (omega (arith, h))

bit_test : (b : Bool) → eqb (bit b) 1 ≡ b
bit_test true = refl
bit_test false = refl

-- a number has no bit where it is below the bit's weight
pub word_bit-past : (w k : ℕ) → w < 2 ^ k → word_bit w k ≡ false
unfolding word_bit
word_bit-past w k small = ap (λ x. eqb (x % 2) 1) (div-eq_of_lt small)

-- bit k of a number is that of plane k, and 0 past the planes
pub word_bit-number_at : (ps : List (List Bool)) (k v : ℕ) → word_bit (number_at ps v) k ≡ get_or (plane_at ps k) v false
unfolding word_bit
word_bit-number_at ps k v =
    elim (cases_lt k (length ps)) [
      | inl below ↦
          ap (λ x. eqb x 1) (bit_of_number ps k v below) ∙ bit_test (get_or (plane_at ps k) v false)
      | inr past ↦
          word_bit-past (number_at ps v) k (omega (arith, number_at_lt ps v, pow_mono past)) ∙ sym (ap (λ p. get_or p v false) (get_or-past ps k [] past))
    ]

-- a word whose bits are those of the low 64 planes
pub word_is : (w : ℕ) (ps : List (List Bool)) (v : ℕ) → w < 2 ^ 64 → ((k : ℕ) → k < 64 → word_bit w k ≡ get_or (plane_at ps k) v false) → w ≡ number_at (take 64 ps) v
word_is w ps v fits each =
    let few : length (take 64 ps) ≤ 64 = omega (arith, length-take 64 ps) in
    let below : number_at (take 64 ps) v < 2 ^ 64 = omega (arith, number_at_lt (take 64 ps) v, pow_mono few) in
    words_equal w (number_at (take 64 ps) v) fits below (λ k h.
    each k h ∙ sym (word_bit-number_at (take 64 ps) k v ∙ ap (λ p. get_or p v false) (get_or-take 64 ps k [] h)))

-- the two halves of a number of up to 128 planes
pub halves : (ps : List (List Bool)) (v : ℕ) → length ps ≤ 128 → number_at ps v ≡ number_at (take 64 ps) v + 2 ^ 64 * number_at (take 64 (drop (min (length ps) 64) ps)) v
halves ps v narrow =
    let same : take 64 (drop (min (length ps) 64) ps) ≡ drop 64 ps = elim (cases_lt (length ps) 64) [
      | inl few ↦ ap (take 64) (drop_all (min (length ps) 64) ps (omega arith)) ∙ sym (drop_all 64 ps (omega arith))
      | inr many ↦
          let whole : min (length ps) 64 ≡ 64 = omega arith in
          ap (λ m. take 64 (drop m ps)) whole ∙ take_all 64 (drop 64 ps) (omega (arith, length-drop 64 ps))
    ] in
    number_at_split ps 64 v ∙ ap (λ qs. number_at (take 64 ps) v + 2 ^ 64 * number_at qs v) (sym same)

-- a number with the low bits of x
bit_zero : (x : ℕ) → bit (word_bit x 0) ≡ x % 2
unfolding word_bit
bit_zero x = odd_bit (x / 1) ∙ omega arith

pub number_from_bits : (ps : List (List Bool)) (v x : ℕ) → ((k : ℕ) → k < length ps → get_or (plane_at ps k) v false ≡ word_bit x k) → number_at ps v ≡ x % 2 ^ length ps
unfolding number_at
number_from_bits [] v x each = omega arith
number_from_bits (p ∷ ps) v x each =
    let lowest : bit_in p v ≡ x % 2 = ap bit (each 0 (omega arith)) ∙ bit_zero x in
    let next : (k : ℕ) → k < length ps → get_or (plane_at ps k) v false ≡ word_bit (x / 2) k = λ k h. each (suc k) (omega (arith, h)) ∙ ap (word_bit x) (omega arith) ∙ sym (shr_bit x 1 k) in
    let rest : number_at ps v ≡ x / 2 % 2 ^ length ps = number_from_bits ps v (x / 2) next in
    let both : x % 2 ^ (length ps + 1) ≡ (x / 2 % 2 ^ length ps) * 2 + x % 2 = mod-pow-add x (length ps) 1 in
    let longer : x % 2 ^ suc (length ps) ≡ x % 2 ^ (length ps + 1) = ap (λ n. x % 2 ^ n) (omega arith) in
    omega (arith, lowest, rest, both, longer)

-- two lists of as many planes with the same bits in a processor
pub same_number : (ps qs : List (List Bool)) (v : ℕ) → length ps ≡ length qs → ((k : ℕ) → k < length qs → get_or (plane_at ps k) v false ≡ get_or (plane_at qs k) v false) → number_at ps v ≡ number_at qs v
same_number ps qs v count each =
    number_from_bits ps v (number_at qs v) (λ k h. each k (omega arith) ∙ sym (word_bit-number_at qs k v))
    ∙ ap (λ n. number_at qs v % 2 ^ n) count
    ∙ mod-eq_of_lt (number_at_lt qs v)
