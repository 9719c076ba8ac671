-- The values of the last places of a line, cut where a segment begins.
use Rattle.std.specs.Prelude.{ℕ, zero, suc, ◌≡◌, ◌<◌, ◌≤◌, ◌+◌, ◌-◌, Bool, true, false, ◌||◌, cond, List, [], ◌++◌, ◌==◌}
use Rattle.paris_geometry.specs.declared.direction.Direction.{Direction}
use Rattle.paris_geometry.specs.declared.direction.Direction.TheVariants.{Upward, Downward}
use Rattle.paris_geometry.specs.Geometry.{axis_length, coordinate, processor_count}

-- the processor that lies `by` before v, where lines are walked in the direction
abbrev pub before : Direction → ℕ → ℕ → ℕ
before Upward by v = v - by
before Downward by v = v + by

-- whether a segment begins at one of the last k places up to v
unfoldable pub begun_within : (ℕ → Bool) → Direction → ℕ → ℕ → ℕ → Bool
begun_within begins direction s zero v = false
begun_within begins direction s (suc k) v = begins v || begun_within begins direction s k (before direction s v)

-- what the last k places up to v hold, in order, from where the last segment among them begins
unfoldable pub segment_run : (ℕ → Bool) → (ℕ → List ℕ) → Direction → ℕ → ℕ → ℕ → List ℕ
segment_run begins own direction s zero v = []
segment_run begins own direction s (suc k) v = cond (begins v) (own v) (segment_run begins own direction s k (before direction s v) ++ own v)

-- the coordinate at which lines begin that are walked in the direction, on an axis of n processors
abbrev pub first_coordinate : Direction → ℕ → ℕ
first_coordinate Upward n = 0
first_coordinate Downward n = n - 1

-- where a line begins, or a segment
abbrev pub begins_run : List ℕ → ℕ → Direction → (ℕ → Bool) → ℕ → Bool
begins_run axes a direction begins v = (coordinate axes a v == first_coordinate direction (axis_length axes a)) || begins v

-- a segment begins where a line does
abbrev pub StartsLines : List ℕ → ℕ → Direction → (ℕ → Bool) → Type 0
StartsLines axes a direction begins =
    (v : ℕ) → v < processor_count axes → coordinate axes a v ≡ first_coordinate direction (axis_length axes a) → begins v ≡ true

-- of n processors there is one that lies `by` before v
abbrev pub Reaches : Direction → ℕ → ℕ → ℕ → Type 0
Reaches Upward by n v = by ≤ v
Reaches Downward by n v = v + by < n
