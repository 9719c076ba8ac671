-- One sweep forward over rows, from keys whose recipes change.
use Rattle.std.specs.Prelude.{ℕ, nat_eq, List, [], ◌∷◌, map, Bool, false, if◌then◌else◌, slice_index_or}
use Rattle.std.specs.List.{list_any}
use Rattle.paris_names.specs.declared.keys.Key.{Key}
use Rattle.paris_names.specs.Keys.{has_key, key_slot}
use Rattle.paris_model.specs.Instructions.{Plan, reads, writes}

-- the keys that a table marks
abbrev pub marked : List Bool → Key → Bool
marked table k = slice_index_or table (key_slot k) false

-- whether a plan reads a changed key
abbrev pub touches : (Key → Bool) → Plan → Bool
touches d p = list_any d (reads p)

-- the keys that are changed after a plan
unfoldable pub spread : (Key → Bool) → Plan → Key → Bool
spread d p k = if has_key (writes p) k then touches d p else d k

module _ {T : Type 0} (plan : T → Plan) where
  -- the ids of the rows that read a changed key
  abbrev pub touched : (Key → Bool) → List (ℕ × T) → List ℕ
  touched d [] = []
  touched d (r ∷ rows) =
      let later = touched (spread d (plan r.1)) rows in
      if touches d (plan r.1) then r.0 ∷ later else later

  -- the rows, where those that read a changed key become one thing and the others another
  abbrev pub swept : {Y : Type 0} → (ℕ × T → Y) → (ℕ × T → Y) → (Key → Bool) → List (ℕ × T) → List Y
  swept changed kept d [] = []
  swept changed kept d (r ∷ rows) = (if touches d (plan r.1) then changed r else kept r) ∷ swept changed kept (spread d (plan r.1)) rows

-- the same of rows whose ids are listed, and of the others
abbrev pub by_ids : {T Y : Type 0} → (ℕ × T → Y) → (ℕ × T → Y) → List ℕ → List (ℕ × T) → List Y
by_ids changed kept ids rows = map (λ r. if list_any (nat_eq r.0) ids then changed r else kept r) rows
