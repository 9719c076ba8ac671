-- Planes that hold bits of each processor's own address.
use Rattle.std.proofs.Common.{◌≡◌, ◌≤◌, ℕ, ◌+◌, ◌/◌, ◌%◌, ◌^◌, ◌<◌, Bool, true, false, cond, List, [], ◌∷◌, ◌++◌, length, get_or, map, replicate, arith, ap, ◌∙◌, sym, eqb, inl, inr}
use Rattle.std.specs.Prelude.{nat_lt}
use Rattle.std.specs.List.{range_with_len}
use Rattle.std.specs.Int.{bit_at}
use Rattle.std.proofs.Math.Nat.{mod-eq_of_lt}
use Rattle.std.proofs.Math.Pow.{pow_mono}
use Rattle.std.proofs.lemmas.Bool.{cases_lt}
use Rattle.std.proofs.lemmas.Bool.Decides.{nat_tests}
use Rattle.std.proofs.lemmas.List.{length-replicate, get_or-replicate}
use Rattle.std.proofs.lemmas.List.FromFn.{length-map-range_with_len, get_or-map-range_with_len, map-range_with_len_more}
use Rattle.std.proofs.lemmas.Nat.{div-add-mod', mod_below}
use Rattle.std.proofs.lemmas.Nat.Bits.{bit_at_cat_low, bit_at_above}
use lib.Pow.{pow_pos}
use Rattle.paris_plane.specs.Bits.{word_bit, stripes}
use Rattle.paris_plane.proofs.Stripes.{length-stripes, get_or-stripes}
use Rattle.paris_field.specs.Numbers.{AllOf, number_at, plane_at}
use Rattle.paris_field.proofs.Halves.{number_from_bits}
use Rattle.paris_field.proofs.Turn.{shr_bit}

-- plane k of them
unfoldable pub address_plane : ℕ → ℕ → ℕ → ℕ → List Bool
address_plane from count n k = cond (nat_lt k count) (stripes (from + k) n) (replicate n false)

-- the first k of them
abbrev pub address_list : ℕ → ℕ → ℕ → ℕ → List (List Bool)
address_list from count n k = map (address_plane from count n) (range_with_len 0 k)

pub list_more : (from count n k : ℕ) (ps : List (List Bool)) (p : List Bool) → ps ≡ address_list from count n k → p ≡ address_plane from count n k → ps ++ p ∷ [] ≡ address_list from count n (k + 1)
list_more from count n k ps p is next =
    ap (λ l. l ++ p ∷ []) is ∙ ap (λ q. address_list from count n k ++ q ∷ []) next ∙ sym (map-range_with_len_more (address_plane from count n) 0 k k (omega arith))

pub low_plane : (from count n k : ℕ) → k < count → stripes (from + k) n ≡ address_plane from count n k
unfolding address_plane
low_plane from count n k h =
    let yes : nat_lt k count ≡ true = grind (arith, nat_tests) in
    sym (ap (λ b. cond b (stripes (from + k) n) (replicate n false)) yes)

pub high_plane : (from count n k : ℕ) → count ≤ k → replicate n false ≡ address_plane from count n k
unfolding address_plane
high_plane from count n k h =
    let no : nat_lt k count ≡ false = grind (arith, nat_tests) in
    sym (ap (λ b. cond b (stripes (from + k) n) (replicate n false)) no)

plane_long : (from count n k : ℕ) → length (address_plane from count n k) ≡ n
plane_long from count n k =
    elim (cases_lt k count) [
      | inl below ↦ ap length (sym (low_plane from count n k below)) ∙ length-stripes (from + k) n
      | inr above ↦ ap length (sym (high_plane from count n k above)) ∙ length-replicate n false
    ]

pub low_bit : (x count k : ℕ) → k < count → word_bit (x % 2 ^ count) k ≡ word_bit x k
unfolding word_bit
low_bit x count k h =
    ap (λ b. eqb b 1) (sym (bit_at_cat_low (x / 2 ^ count) count (x % 2 ^ count) k h) ∙ ap (λ y. bit_at y k) (div-add-mod' x (2 ^ count)))

no_bit : (x count k : ℕ) → count ≤ k → word_bit (x % 2 ^ count) k ≡ false
unfolding word_bit
no_bit x count k h = ap (λ b. eqb b 1) (bit_at_above (x % 2 ^ count) count k (mod_below x (2 ^ count) (pow_pos count)) h)

plane_bit : (from count n k v : ℕ) → v < n → get_or (address_plane from count n k) v false ≡ word_bit (v / 2 ^ from % 2 ^ count) k
plane_bit from count n k v h =
    elim (cases_lt k count) [
      | inl below ↦
          ap (λ p. get_or p v false) (sym (low_plane from count n k below)) ∙ get_or-stripes (from + k) n v h
          ∙ sym (low_bit (v / 2 ^ from) count k below ∙ shr_bit v from k)
      | inr above ↦
          ap (λ p. get_or p v false) (sym (high_plane from count n k above)) ∙ get_or-replicate n v false false h
          ∙ sym (no_bit (v / 2 ^ from) count k above)
    ]

pub length-address_list : (from count n w : ℕ) → length (address_list from count n w) ≡ w
length-address_list from count n w = length-map-range_with_len (address_plane from count n) 0 w

list_at : (from count n w k : ℕ) → k < w → plane_at (address_list from count n w) k ≡ address_plane from count n k
list_at from count n w k h = get_or-map-range_with_len (address_plane from count n) 0 w k k [] h (omega arith)

pub list_long : (from count n w : ℕ) → AllOf n (address_list from count n w)
list_long from count n w k h =
    ap length (list_at from count n w k (omega (arith, h, length-address_list from count n w))) ∙ plane_long from count n k

pub list_number : (from count n w v : ℕ) → count ≤ w → v < n → number_at (address_list from count n w) v ≡ v / 2 ^ from % 2 ^ count
list_number from count n w v room h =
    let x : ℕ = v / 2 ^ from % 2 ^ count in
    let many : length (address_list from count n w) ≡ w = length-address_list from count n w in
    let small : x < 2 ^ w = omega (arith, mod_below (v / 2 ^ from) (2 ^ count) (pow_pos count), pow_mono room) in
    number_from_bits (address_list from count n w) v x (λ k below.
    ap (λ p. get_or p v false) (list_at from count n w k (omega (arith, below, many))) ∙ plane_bit from count n k v h)
    ∙ ap (λ m. x % 2 ^ m) many
    ∙ mod-eq_of_lt small
