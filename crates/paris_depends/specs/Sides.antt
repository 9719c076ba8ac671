-- The two sides of an index: the rows that write a key, and those that read it.
use Rattle.std.specs.Prelude.{◌≡◌, ℕ, zero, suc, ◌⊎◌, List, Bool, Option, None, remove, slice_get}
use Rattle.std.specs.List.{filter}
use Rattle.std.specs.Map.{keys_of}
use Rattle.paris_names.specs.declared.keys.Key.{Key}
use Rattle.paris_depends.specs.Index.{Footprint, writes_key, reads_key}
use Rattle.paris_depends.specs.declared.sides.Side.{Side}
use Rattle.paris_depends.specs.declared.sides.Side.TheVariants.{Writers, Readers}

-- the keys of a row on a side
abbrev pub keys_on : Side → Footprint → List Key
keys_on Writers f = f.written
keys_on Readers f = f.read

-- whether a row is among the entries of a list
abbrev pub test_of : Side → Key → ℕ × Footprint → Bool
test_of Writers k = writes_key k
test_of Readers k = reads_key k

-- the ids of the rows that write a key, or of those that read it
abbrev pub entries : Side → List (ℕ × Footprint) → Key → List ℕ
entries side rows k = keys_of (filter (test_of side k) rows)

-- the ids of a list are the entries of the rows, or of all of them but the one at a place
abbrev pub AreEntries : Side → Key → List (ℕ × Footprint) → ℕ → List ℕ → Type 0
AreEntries side k rows place ids = (ids ≡ entries side rows k) ⊎ (ids ≡ entries side (remove rows place) k)

-- the entry of a list just before a place
abbrev pub entry_before : List ℕ → ℕ → Option ℕ
entry_before ids zero = None
entry_before ids (suc n) = slice_get ids n
