-- Laws of coordinates, addresses and neighbours.
use Rattle.std.specs.Prelude.{◌≡◌, ◌↔◌, ◌<◌, ℕ, List, length, slice_index, true}
use Rattle.paris_geometry.specs.declared.direction.Direction.{Direction}
use Rattle.paris_geometry.specs.Geometry.{is_geometry, processor_count, coordinate, coordinates, address, AreCoordinates, neighbour, opposite}

-- the address of a processor's coordinates is the processor
abbrev pub AddressUndoesCoordinates : Type 0
AddressUndoesCoordinates = (axes : List ℕ) (v : ℕ) → is_geometry axes ≡ true → v < processor_count axes
    → AreCoordinates axes (coordinates axes v) × (address axes (coordinates axes v) ≡ v)

-- the coordinates of an address are those that it was made of
abbrev pub CoordinatesUndoAddress : Type 0
CoordinatesUndoAddress = (axes cs : List ℕ) (a : ℕ) → AreCoordinates axes cs → a < length axes
    → (address axes cs < processor_count axes) × (coordinate axes a (address axes cs) ≡ slice_index cs a)

-- one step along an axis and one back is where one was
abbrev pub StepAndBack : Type 0
StepAndBack = (axes : List ℕ) (a : ℕ) (direction : Direction) (v : ℕ) → is_geometry axes ≡ true → a < length axes
    → neighbour axes a (opposite direction) (neighbour axes a direction v) ≡ v

-- a receiver has exactly one neighbour that sends to it: the one in the opposite direction
abbrev pub OneSender : Type 0
OneSender = (axes : List ℕ) (a : ℕ) (direction : Direction) (p r : ℕ) → is_geometry axes ≡ true → a < length axes
    → (neighbour axes a direction p ≡ r) ↔ (p ≡ neighbour axes a (opposite direction) r)
