-- What an instruction sees: its set, the set's axes, and for each key one number per processor.
use Rattle.std.specs.Prelude.{ℕ, Bool, ◌==◌, List, slice_index}
use Rattle.paris_names.specs.declared.keys.FlagName.{FlagName}
use Rattle.paris_names.specs.declared.keys.FlagName.TheVariants.{Context}
use Rattle.paris_names.specs.declared.keys.Key.{Key}
use Rattle.paris_names.specs.declared.keys.Key.TheVariants.{Field, Flag}
use Rattle.paris_geometry.specs.Geometry.{processor_count}
use Rattle.paris_model.specs.declared.actions.Operand.{Operand}
use Rattle.paris_model.specs.Store.{low, stored}

-- for each key, the numbers of the processors of its set
abbrev pub World : Type 0
World = Key → List ℕ

pub record Frame : Type 0 where
  pub set_no : ℕ
  pub axes : List ℕ
  pub world : World

-- the number at a key in processor v
abbrev pub at : Frame → Key → ℕ → ℕ
at m k v = slice_index (m.world k) v

-- the number of a field in processor v
abbrev pub field_at : Frame → Operand → ℕ → ℕ
field_at m o v = at m (Field o.field) v

-- the low L bits of a field in processor v
abbrev pub low_at : Frame → Operand → ℕ → ℕ → ℕ
low_at m o L v = low L (at m (Field o.field) v)

-- the number of a flag of the set in processor v
abbrev pub flag_at : Frame → FlagName → ℕ → ℕ
flag_at m flag v = at m (Flag m.set_no flag) v

-- whether processor v is selected: its context is 1
abbrev pub is_selected : Frame → ℕ → Bool
is_selected m v = flag_at m Context v == 1

-- the key's numbers where the processors that pass the test put theirs into the low L bits
abbrev pub put_where : Frame → (ℕ → Bool) → Key → ℕ → (ℕ → ℕ) → List ℕ
put_where m who k L new = stored (processor_count m.axes) who (at m k) L new

-- the key's numbers where the selected processors put theirs
abbrev pub put_selected : Frame → Key → ℕ → (ℕ → ℕ) → List ℕ
put_selected m k L new = put_where m (is_selected m) k L new
