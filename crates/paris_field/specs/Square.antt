-- Places of a square of bits, and four squares side by side.
use Rattle.std.specs.Prelude.{ℕ, ◌+◌, ◌-◌, ◌*◌, ◌≡◌, ◌<◌, Bool, List, [], length, slice_index, slice_index_or}
use Rattle.paris_plane.specs.Bits.{word_bit}
use Rattle.paris_plane.specs.Digits.{digit}

-- n with d in place of its digit, at the weight s
abbrev pub replaced : ℕ → ℕ → ℕ → ℕ
replaced s n d = n - s * digit s n + s * d

-- n with the digit of m in place of its own, at the weight s
abbrev pub crossed : ℕ → ℕ → ℕ → ℕ
crossed s n m = n - s * digit s n + s * digit s m

-- bit i of row j of the square whose rows are the lanes q
abbrev pub lane_bit : List (List ℕ) → ℕ → ℕ → ℕ → Bool
lane_bit rows q j i = word_bit (slice_index (slice_index_or rows j []) q) i

-- each of the first n rows has four lanes
abbrev pub FourLanes : ℕ → List (List ℕ) → Type 0
FourLanes n rows = (j : ℕ) → j < n → length (slice_index_or rows j []) ≡ 4
