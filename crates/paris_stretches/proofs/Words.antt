-- Some bits of two words, which are the same.
use Rattle.std.proofs.Common.{◌≡◌, ℕ, ◌+◌, ◌/◌, ◌%◌, ◌^◌, ◌<◌, ◌∙◌, sym, bit_xor}
use Rattle.paris_plane.specs.Bits.{word_bit}
use Rattle.paris_plane.specs.Equal.{low_same, low_zero}
use Rattle.paris_field.proofs.Turn.{shr_bit}

pub bits_same : (x y from count i : ℕ) → bit_xor (x / 2 ^ from) (y / 2 ^ from) % 2 ^ count ≡ 0 → i < count → word_bit x (from + i) ≡ word_bit y (from + i)
bits_same x y from count i e h = sym (shr_bit x from i) ∙ low_same (x / 2 ^ from) (y / 2 ^ from) count i e h ∙ shr_bit y from i

pub none_apart : (x y from count : ℕ) → ((i : ℕ) → i < count → word_bit x (from + i) ≡ word_bit y (from + i)) → bit_xor (x / 2 ^ from) (y / 2 ^ from) % 2 ^ count ≡ 0
none_apart x y from count each = low_zero (x / 2 ^ from) (y / 2 ^ from) count (λ i h. shr_bit x from i ∙ each i h ∙ sym (shr_bit y from i))
