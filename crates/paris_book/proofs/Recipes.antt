-- A sweep marks exactly the rows whose recipe changes.
use Rattle.std.proofs.Common.{◌≡◌, ℕ, List, [], ◌∷◌, ◌++◌, Bool, true, false, cond, refl}
use Rattle.std.specs.Prelude.{not}
use Rattle.paris_names.specs.declared.keys.Key.{Key}
use Rattle.paris_model.specs.Recipe.{Recipe}
use Rattle.paris_depends.specs.Changes.{Differ}
use Rattle.paris_depends.specs.Sweeps.{touches, spread}
use Rattle.paris_depends.proofs.Recipes.{same_self, recipe_same, past_differ}
use Rattle.paris_events.specs.State.{Row}
use Rattle.paris_events.specs.Edits.{Known, row_recipe, past_row, known, unsettled, judged}
use Rattle.paris_book.proofs.Swept.{swept}

-- the recipe of each key's origin after rows
abbrev pub past_all : (Key → Recipe) → List Row → Key → Recipe
past_all q [] = q
past_all q (r ∷ rs) = past_all (past_row q r) rs

pub judged_swept : (n : ℕ) (d : Key → Bool) (q q' : Key → Recipe) → Differ d q q' → (rs : List Row) → judged n q' (known q rs) ≡ swept n d rs
judged_swept n d q q' h [] = refl
judged_swept n d q q' h (r ∷ rs) = rw (recipe_same d q q' h r.id.0 r.set_by r.plan, judged_swept n (spread d r.plan) (past_row q r) (past_row q' r) (past_differ d q q' h r.id.0 r.set_by r.plan) rs) (by_touch (touches d r.plan))
  where
    by_touch : (b : Bool) → (cond (not b) r (unsettled n r) ∷ swept n (spread d r.plan) rs) ≡ (cond b (unsettled n r) r ∷ swept n (spread d r.plan) rs)
    by_touch true = refl
    by_touch false = refl

-- rows whose origins stay the same stay as they are
pub judged_front : (n : ℕ) (q : Key → Recipe) (front : List Row) (ks : List Known) → judged n q (known q front ++ ks) ≡ front ++ judged n (past_all q front) ks
judged_front n q [] ks = refl
judged_front n q (r ∷ rs) ks = rw (same_self (row_recipe q r), judged_front n (past_row q r) rs ks) refl
