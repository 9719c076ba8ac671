-- Geometry. The axes are the list of their lengths. A processor is its send address, which counts along axis 0 fastest.
use Rattle.std.specs.Prelude.{ℕ, ◌+◌, ◌-◌, ◌*◌, ◌/◌, ◌%◌, ◌^◌, ◌<◌, ◌==◌, Bool, ◌&&◌, nat_le, nat_lt, List, [], ◌∷◌, fold, length, map, take, reverse, slice_index}
use Rattle.std.specs.List.{range_with_len, list_any, list_all}
use Rattle.paris_geometry.specs.declared.direction.Direction.{Direction}
use Rattle.paris_geometry.specs.declared.direction.Direction.TheVariants.{Upward, Downward}
use Rattle.paris_names.specs.declared.limits.TheConstants.{MAX_AXES, MAX_PROCESSORS}

-- the numbers below n, in order
abbrev pub numbers_below : ℕ → List ℕ
numbers_below n = range_with_len 0 n

abbrev pub product : List ℕ → ℕ
product lengths = fold (λ n m. n * m) 1 lengths

-- how many processors there are
abbrev pub processor_count : List ℕ → ℕ
processor_count axes = product axes

-- whether n is one of the powers of two up to 65,536
abbrev pub is_power_of_two : ℕ → Bool
is_power_of_two n = list_any (λ k. n == 2 ^ k) (numbers_below 17)

-- whether the lengths make a geometry: 1 to 4 axes, each a power of two, and at most 65,536 processors
abbrev pub is_geometry : List ℕ → Bool
is_geometry axes = nat_lt 0 (length axes) && nat_le (length axes) MAX_AXES && list_all is_power_of_two axes && nat_le (processor_count axes) MAX_PROCESSORS

-- how far apart two neighbours along axis a are
abbrev pub stride : List ℕ → ℕ → ℕ
stride axes a = product (take a axes)

abbrev pub axis_length : List ℕ → ℕ → ℕ
axis_length axes a = slice_index axes a

-- the coordinate of processor v on axis a
abbrev pub coordinate : List ℕ → ℕ → ℕ → ℕ
coordinate axes a v = (v / stride axes a) % axis_length axes a

-- the coordinates of processor v, axis 0 first
abbrev pub coordinates : List ℕ → ℕ → List ℕ
coordinates axes v = map (λ a. coordinate axes a v) (numbers_below (length axes))

-- the processor that has these coordinates, axis 0 first
abbrev pub address : List ℕ → List ℕ → ℕ
address [] cs = 0
address (n ∷ ns) [] = 0
address (n ∷ ns) (c ∷ cs) = c + n * address ns cs

-- one coordinate for each axis, below the axis's length
abbrev pub AreCoordinates : List ℕ → List ℕ → Type 0
AreCoordinates [] [] = Unit {0}
AreCoordinates [] (c ∷ cs) = ⊥
AreCoordinates (n ∷ ns) [] = ⊥
AreCoordinates (n ∷ ns) (c ∷ cs) = (c < n) × AreCoordinates ns cs

-- the processor of v's line along axis a that has the coordinate c
abbrev pub at_coordinate : List ℕ → ℕ → ℕ → ℕ → ℕ
at_coordinate axes a v c = v - coordinate axes a v * stride axes a + c * stride axes a

-- the line of v along axis a, by rising coordinate
abbrev pub line : List ℕ → ℕ → ℕ → List ℕ
line axes a v = map (at_coordinate axes a v) (numbers_below (axis_length axes a))

abbrev pub opposite : Direction → Direction
opposite Upward = Downward
opposite Downward = Upward

-- the next coordinate in the direction on an axis of n processors, which wraps round
abbrev pub neighbour_coordinate : Direction → ℕ → ℕ → ℕ
neighbour_coordinate Upward n c = (c + 1) % n
neighbour_coordinate Downward n c = (c + n - 1) % n

-- the neighbour of v along axis a
abbrev pub neighbour : List ℕ → ℕ → Direction → ℕ → ℕ
neighbour axes a direction v = at_coordinate axes a v (neighbour_coordinate direction (axis_length axes a) (coordinate axes a v))

-- the line of v in the direction, from its first processor to v
abbrev pub line_until : List ℕ → ℕ → Direction → ℕ → List ℕ
line_until axes a Upward v = take (coordinate axes a v + 1) (line axes a v)
line_until axes a Downward v = take (axis_length axes a - coordinate axes a v) (reverse (line axes a v))
