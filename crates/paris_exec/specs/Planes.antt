-- Values on planes: flags as values, the keys that an order's instruction works on, and processors that its flags tell.
use Rattle.std.specs.Prelude.{◌≡◌, ℕ, Bool, true, false, not, ◌&&◌, List, [], ◌∷◌, map, slice_index_or}
use Rattle.paris_names.specs.declared.keys.Key.{Key}
use Rattle.paris_names.specs.Keys.{has_key}
use Rattle.paris_model.specs.Frame.{is_selected}
use Rattle.paris_model.specs.Store.{bit}
use Rattle.paris_model.specs.Instructions.{reads}
use Rattle.paris_field.specs.Fields.{FieldNumbers}
use Rattle.paris_exec.specs.Tasks.{Task, frame_at}

-- bits as a value of width 1
abbrev pub flag_value : List Bool → FieldNumbers
flag_value bits = record { width = 1; numbers = map bit bits }

-- the order's plan reads these keys
abbrev pub AreRead : Task → List Key → Type 0
AreRead t [] = Unit {0}
AreRead t (k ∷ ks) = (has_key (reads t.plan) k ≡ true) × AreRead t ks

-- whether a processor is selected, and its flag isn't set
abbrev pub is_selected_without : Task → List Bool → ℕ → Bool
is_selected_without t flags v = not (slice_index_or flags v false) && is_selected (frame_at t) v
