-- Numbers, one for each processor, whose bits lie in planes.
use Rattle.std.specs.Prelude.{ℕ, ◌+◌, ◌*◌, ◌≡◌, ◌<◌, Bool, false, List, [], ◌∷◌, map, length, slice_index_or}
use Rattle.paris_geometry.specs.Geometry.{numbers_below}
use Rattle.paris_model.specs.Store.{bit, everywhere}
use Rattle.paris_field.specs.Fields.{FieldNumbers}

-- bit v of a plane as a number, and 0 past its end
abbrev pub bit_in : List Bool → ℕ → ℕ
bit_in plane v = bit (slice_index_or plane v false)

-- whether a processor's bit is 1
abbrev pub has : List Bool → ℕ → Bool
has plane v = slice_index_or plane v false

-- one bit for each of n processors
abbrev pub bits_everywhere : ℕ → (ℕ → Bool) → List Bool
bits_everywhere n f = map f (numbers_below n)

-- plane k of some planes
abbrev pub plane_at : List (List Bool) → ℕ → List Bool
plane_at planes k = slice_index_or planes k []

-- the number in processor v, of which plane k holds bit k
unfoldable pub number_at : List (List Bool) → ℕ → ℕ
number_at [] v = 0
number_at (p ∷ ps) v = bit_in p v + 2 * number_at ps v

-- the numbers in n processors
unfoldable pub numbers : ℕ → List (List Bool) → List ℕ
numbers n planes = everywhere n (number_at planes)

-- each plane has n bits
abbrev pub AllOf : ℕ → List (List Bool) → Type 0
AllOf n planes = (k : ℕ) → k < length planes → length (plane_at planes k) ≡ n

-- the value of n processors whose bits are these planes
abbrev pub value_of_planes : ℕ → List (List Bool) → FieldNumbers
value_of_planes n planes = record { width = length planes; numbers = numbers n planes }
