-- A recipe says the numbers: two programs that one book of edits explains have the same numbers wherever their recipes are the same.
use Rattle.std.proofs.Common.{◌≡◌, List, [], ◌∷◌, ◌++◌, Bool, true, false, cond, refl, sym, ap, ◌∙◌, map}
use Rattle.paris_names.specs.declared.keys.Key.{Key}
use Rattle.paris_names.specs.Keys.{has_key}
use Rattle.paris_model.specs.Frame.{World}
use Rattle.paris_model.specs.Instructions.{Plan, reads, writes, one, given}
use Rattle.paris_model.specs.Run.{run}
use Rattle.paris_model.specs.Recipe.{Recipe, chain, recipe, past}
use Rattle.paris_model.specs.Laws.{EditedRow, Edits, recipe_values, RecipesGive, Explains, past_rows, plans_of}
use Rattle.paris_model.proofs.Worlds.{one_is}

chain_means : (b : Edits) (q : Key → Recipe) (w : World) → RecipesGive b q w → (ks : List Key) → recipe_values b (chain q ks) ks ≡ map w ks
chain_means b q w m [] = refl
chain_means b q w m (k ∷ ks) = ap (λ xs. xs ++ recipe_values b (chain q ks) ks) (m k) ∙ ap (λ xs. w k ∷ xs) (chain_means b q w m ks)

past_means : (b : Edits) (q : Key → Recipe) (w : World) (r : EditedRow) → RecipesGive b q w → b.plan r.id r.number ≡ r.plan → RecipesGive b (past q r.id r.number r.plan) (one r.plan w)
unfolding past
past_means b q w r m e k = by_has (has_key (writes r.plan) k) ∙ ap (λ x. x ∷ []) (sym (one_is r.plan w k))
  where
    by_has : (c : Bool) → recipe_values b (cond c (recipe q r.id r.number r.plan) (q k)) (k ∷ []) ≡ cond c (given r.plan (map w (reads r.plan)) k) (w k) ∷ []
    by_has true = ap (λ (y : Plan). given y (recipe_values b (chain q (reads r.plan)) (reads y)) k ∷ []) e ∙ ap (λ xs. given r.plan xs k ∷ []) (chain_means b q w m (reads r.plan))
    by_has false = m k

pub run_means : (b : Edits) (q : Key → Recipe) (w : World) → RecipesGive b q w → (rs : List EditedRow) → Explains b rs → RecipesGive b (past_rows q rs) (run w (plans_of rs))
run_means b q w m [] e = m
run_means b q w m (r ∷ rs) e = run_means b (past q r.id r.number r.plan) (one r.plan w) (past_means b q w r m e.0) rs e.1

-- the same recipe, the same numbers
pub same_recipe : (b : Edits) (q q' : Key → Recipe) (w w' : World) (rs rs' : List EditedRow) → RecipesGive b q w → RecipesGive b q' w' → Explains b rs → Explains b rs' → (k : Key) → past_rows q rs k ≡ past_rows q' rs' k → run w (plans_of rs) k ≡ run w' (plans_of rs') k
same_recipe b q q' w w' rs rs' m m' e e' k same =
    let both : run w (plans_of rs) k ∷ [] ≡ run w' (plans_of rs') k ∷ [] = sym (run_means b q w m rs e k) ∙ ap (λ x. recipe_values b x (k ∷ [])) same ∙ run_means b q' w' m' rs' e' k in
    cc
