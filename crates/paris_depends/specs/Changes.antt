-- The rows whose recipes change with those of the keys' origins.
use Rattle.std.specs.Prelude.{◌≡◌, ℕ, not, List, [], ◌∷◌, Bool, if◌then◌else◌}
use Rattle.paris_names.specs.declared.keys.Key.{Key}
use Rattle.paris_model.specs.Instructions.{Plan}
use Rattle.paris_model.specs.Recipe.{Recipe, recipe, past, same}

-- two lists of the recipes of origins, of which those at just these keys differ
abbrev pub Differ : (Key → Bool) → (Key → Recipe) → (Key → Recipe) → Type 0
Differ d q q' = (k : Key) → same (q k) (q' k) ≡ not (d k)

-- of rows with ids and plans, where each id has the number of the edit that set its row's instruction
module _ {T : Type 0} (plan : T → Plan) (number : ℕ → ℕ) where
  -- the recipe of a row
  abbrev pub recipe_of : (Key → Recipe) → ℕ × T → Recipe
  recipe_of q r = recipe q r.0 (number r.0) (plan r.1)

  -- the recipes of the origins just after a row
  abbrev pub past_row : (Key → Recipe) → ℕ × T → Key → Recipe
  past_row q r = past q r.0 (number r.0) (plan r.1)

  -- the ids of the rows whose recipes differ, from two lists of the origins' recipes before the first row
  abbrev pub changed_between : (Key → Recipe) → (Key → Recipe) → List (ℕ × T) → List ℕ
  changed_between q q' [] = []
  changed_between q q' (r ∷ rows) =
      let later = changed_between (past_row q r) (past_row q' r) rows in
      if same (recipe_of q r) (recipe_of q' r) then later else r.0 ∷ later
