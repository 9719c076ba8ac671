-- The values of the aligned blocks of places that a line falls into.
use Rattle.std.specs.Prelude.{ℕ, zero, suc, ◌+◌, ◌-◌, ◌*◌, ◌/◌, ◌%◌, List, [], ◌++◌}

-- what n processors hold from u on, each of which lies s above the one before
unfoldable pub row : (ℕ → List ℕ) → ℕ → ℕ → ℕ → List ℕ
row own s zero u = []
row own s (suc n) u = own u ++ row own s n (u + s)

-- the first of the n processors of v's block
abbrev pub block_start : ℕ → ℕ → ℕ → ℕ
block_start s n v = v - v / s % n * s

-- what the n processors of v's block hold, by rising coordinate
abbrev pub block : (ℕ → List ℕ) → ℕ → ℕ → ℕ → List ℕ
block own s n v = row own s n (block_start s n v)
