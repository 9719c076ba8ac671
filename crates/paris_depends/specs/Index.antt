-- What an index knows: the rows in program order, each with the keys that its plan writes and reads.
use Rattle.std.specs.Prelude.{◌≡◌, ℕ, ◌<◌, Bool, true, List, map, Option, Some, nat_eq, slice_get, slice_index_or}
use Rattle.std.specs.List.{filter}
use Rattle.std.specs.Map.{lookup, keys_of}
use Rattle.std.specs.Option.{option_map}
use Rattle.paris_names.specs.declared.keys.Key.{Key}
use Rattle.paris_names.specs.Keys.{has_key, key_slot}
use Rattle.paris_program.specs.Program.{place_in, row_of}
use Rattle.paris_model.specs.Instructions.{Plan, reads, writes}

-- the keys that a plan writes, and those that it reads
pub record Footprint : Type 0 where
  pub written : List Key
  pub read : List Key

-- what fits with no more memory, where no copy may share it: for each place, and for the end, whether a row can be put in there; for each
-- row whether it may be changed; and how many more ids fit among the writers and the readers of each key
pub record Room : Type 0 where
  pub places : List Bool
  pub own : List Bool
  pub writers : List ℕ
  pub readers : List ℕ

-- the rows in program order, each with its id, and the room for more
pub record Index : Type 0 where
  pub rows : List (ℕ × Footprint)
  pub room : Room

abbrev pub footprint : Plan → Footprint
footprint p = record { written = writes p; read = reads p }

-- the rows of a program, by what their plans write and read
abbrev pub footprints : {T : Type 0} → (T → Plan) → List (ℕ × T) → List (ℕ × Footprint)
footprints plan rows = map (λ r. (r.0, footprint (plan r.1))) rows

-- whether a row writes a key, and whether it reads it
abbrev pub writes_key : Key → ℕ × Footprint → Bool
writes_key k r = has_key r.1.written k

abbrev pub reads_key : Key → ℕ × Footprint → Bool
reads_key k r = has_key r.1.read k

-- the ids of the rows that write a key, and of those that read it, in program order
abbrev pub writers : List (ℕ × Footprint) → Key → List ℕ
writers rows k = keys_of (filter (writes_key k) rows)

abbrev pub readers : List (ℕ × Footprint) → Key → List ℕ
readers rows k = keys_of (filter (reads_key k) rows)

-- the keys that the row with this id writes
abbrev pub keys_written : List (ℕ × Footprint) → ℕ → Option (List Key)
keys_written rows id = option_map (λ f. f.written) (lookup (nat_eq id) rows)

-- whether one more row with this footprint fits into the lists of its keys with no more memory
pub record HasRoom (room : Room) (f : Footprint) : Type 0 where
  pub writers : (k : Key) → has_key f.written k ≡ true → 0 < slice_index_or room.writers (key_slot k) 0
  pub readers : (k : Key) → has_key f.read k ≡ true → 0 < slice_index_or room.readers (key_slot k) 0

-- a row with this footprint can be put in at a place with no more memory
pub record CanAdd (room : Room) (place : ℕ) (f : Footprint) : Type 0 where
  pub there : slice_get room.places place ≡ Some true
  pub lists : HasRoom room f

-- the row with this id may be changed, and so may the lists of its keys
pub record CanChange (i : Index) (id : ℕ) : Type 0 where
  pub own : slice_get i.room.own (place_in i.rows id) ≡ Some true
  pub lists : (f : Footprint) → row_of i.rows id ≡ Some f → HasRoom i.room f
