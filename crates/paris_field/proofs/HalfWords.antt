-- The numbers in the two halves of a word.
use Rattle.std.proofs.Common.{◌≡◌, ℕ, ◌+◌, ◌/◌, ◌%◌, ◌^◌, ◌<◌, ◌≤◌, List, [], Bool, false, length, get_or, arith, ap, ◌∙◌, sym, inl, inr}
use Rattle.std.proofs.Math.Pow.{pow_mono}
use Rattle.std.proofs.lemmas.Bool.{cases_lt}
use Rattle.std.proofs.lemmas.List.{take_all}
use Rattle.std.proofs.lemmas.Nat.{mod_below}
use lib.Pow.{pow_pos}
use Rattle.paris_plane.specs.Bits.{word_bit}
use Rattle.paris_plane.specs.Words.{zero_bit}
use Rattle.paris_field.specs.Numbers.{number_at, plane_at}
use Rattle.paris_field.proofs.Addresses.{low_bit}
use Rattle.paris_field.proofs.Halves.{get_or-past, word_bit-past, word_is}
use Rattle.paris_field.proofs.Turn.{shr_bit}

-- n bits that are those of up to n planes
part_is : (n w : ℕ) (ps : List (List Bool)) (v : ℕ) → n ≤ 64 → w < 2 ^ n → length ps ≤ n → ((k : ℕ) → k < n → word_bit w k ≡ get_or (plane_at ps k) v false) → w ≡ number_at ps v
part_is n w ps v narrow small few each =
    word_is w ps v (omega (arith, small, pow_mono narrow)) (λ k _.
    elim (cases_lt k n) [
      | inl below ↦ each k below
      | inr above ↦
          word_bit-past w k (omega (arith, small, pow_mono above)) ∙ sym (ap (λ p. get_or p v false) (get_or-past ps k [] (omega arith)))
    ])
    ∙ ap (λ qs. number_at qs v) (take_all 64 ps (omega arith))

pub low_part_is : (n w : ℕ) (ps : List (List Bool)) (v : ℕ) → n ≤ 64 → length ps ≤ n → ((k : ℕ) → k < n → word_bit w k ≡ get_or (plane_at ps k) v false) → w % 2 ^ n ≡ number_at ps v
low_part_is n w ps v narrow few each = part_is n (w % 2 ^ n) ps v narrow (mod_below w (2 ^ n) (pow_pos n)) few (λ k h. low_bit w n k h ∙ each k h)

pub high_part_is : (n w : ℕ) (ps : List (List Bool)) (v : ℕ) → n ≤ 64 → w / 2 ^ n < 2 ^ n → length ps ≤ n → ((k : ℕ) → k < n → word_bit w (n + k) ≡ get_or (plane_at ps k) v false) → w / 2 ^ n ≡ number_at ps v
high_part_is n w ps v narrow small few each = part_is n (w / 2 ^ n) ps v narrow small few (λ k h. shr_bit w n k ∙ each k h)

-- where each half of a word has 32 bits
pub low_half_is : (w : ℕ) (ps : List (List Bool)) (v : ℕ) → length ps ≤ 32 → ((k : ℕ) → k < 32 → word_bit w k ≡ get_or (plane_at ps k) v false) → w % 2 ^ 32 ≡ number_at ps v
low_half_is w ps v few each = low_part_is 32 w ps v (omega arith) few each

pub high_half_is : (w : ℕ) (ps : List (List Bool)) (v : ℕ) → w < 2 ^ 64 → length ps ≤ 32 → ((k : ℕ) → k < 32 → word_bit w (32 + k) ≡ get_or (plane_at ps k) v false) → w / 2 ^ 32 ≡ number_at ps v
high_half_is w ps v fits few each = high_part_is 32 w ps v (omega arith) (omega arith) few each

-- a row of zeros where there is no such plane
pub no_row : (ps : List (List Bool)) (k i v w : ℕ) → i < 64 → length ps ≤ k → w ≡ 0 → word_bit w i ≡ get_or (plane_at ps k) v false
no_row ps k i v w inside past none =
    ap (λ t. word_bit t i) none ∙ zero_bit i inside ∙ sym (ap (λ p. get_or p v false) (get_or-past ps k [] past))
