-- How an index keeps what it knows.
use Rattle.std.specs.Prelude.{◌≡◌, ◌≤◌, length}
use Rattle.std.specs.List.{AllByRecursion, IsDistinct}
use Rattle.paris_names.specs.declared.keys.Key.{Key}
use Rattle.paris_names.specs.Keys.{key_eq, key_slot}
use Rattle.paris_depends.specs.Index.{Footprint, Index, writers, readers}
use Rattle.paris_depends.specs.Lists.{list_at}
use Rattle.paris_depends.specs.declared.index.Index.TheInside.{Inside}

abbrev pub indexed : Inside → Index
indexed i = record {
  rows = i.table.rows;
  room = record {
    places = i.table.room;
    own = i.table.own;
    writers = i.writers.room;
    readers = i.readers.room;
  };
}

-- a row has each key once on a side, and writes at most three
pub record IsRow (f : Footprint) : Type 0 where
  pub few : length f.written ≤ 3
  pub writes_once : IsDistinct key_eq f.written
  pub reads_once : IsDistinct key_eq f.read

-- the lists have the writers and the readers of each key, and the rows are sound
pub record IsIndex (i : Inside) : Type 0 where
  pub writers : (k : Key) → list_at i.writers (key_slot k) ≡ writers i.table.rows k
  pub readers : (k : Key) → list_at i.readers (key_slot k) ≡ readers i.table.rows k
  pub sound : AllByRecursion (λ r. IsRow r.1) i.table.rows
