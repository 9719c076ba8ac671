-- A sweep lists exactly the rows whose recipe changes.
use Rattle.std.proofs.Common.{◌≡◌, ℕ, List, [], ◌∷◌, Bool, true, false, cond, refl, eqb, ◌∙◌}
use Rattle.std.proofs.lemmas.Bool.Decides.{Decides-eqb}
use Rattle.std.specs.Prelude.{not, ◌&&◌, ◌||◌}
use Rattle.std.specs.List.{list_any}
use Rattle.paris_names.specs.declared.keys.Key.{Key}
use Rattle.paris_names.specs.Keys.{has_key}
use Rattle.paris_model.specs.Instructions.{Plan, reads, writes}
use Rattle.paris_model.specs.Recipe.{Recipe, chain, recipe, past, same}
use Rattle.paris_model.specs.Recipe.Recipe.{Start, Made, End, And}
use Rattle.paris_depends.specs.Changes.{Differ, changed_between, past_row}
use Rattle.paris_depends.specs.Sweeps.{touches, spread, touched}

-- a number is equal to itself
pub eqb_self : (n : ℕ) → eqb n n ≡ true
eqb_self n = (Decides-eqb n n).1 refl

-- a recipe is the same as itself
pub same_self : (q : Recipe) → same q q ≡ true
same_self (Start m) = eqb_self m
same_self (Made i s a) = rw (eqb_self i, eqb_self s) (same_self a)
same_self End = refl
same_self (And a b) = rw (same_self a) (same_self b)

-- the chains of keys differ where one of the keys is changed
pub chain_same : (d : Key → Bool) (q q' : Key → Recipe) → Differ d q q' → (ks : List Key) → same (chain q ks) (chain q' ks) ≡ not (list_any d ks)
chain_same d q q' h [] = refl
chain_same d q q' h (k ∷ ks) = by_first (chain_same d q q' h ks) (d k) (h k)
  where
    by_first : same (chain q ks) (chain q' ks) ≡ not (list_any d ks) → (b : Bool) → same (q k) (q' k) ≡ not b → (same (q k) (q' k) && same (chain q ks) (chain q' ks)) ≡ not (b || list_any d ks)
    by_first rest true e = rw e refl
    by_first rest false e = rw e rest

-- a row's recipe changes where its plan reads a changed key
pub recipe_same : (d : Key → Bool) (q q' : Key → Recipe) → Differ d q q' → (id number : ℕ) (p : Plan) → same (recipe q id number p) (recipe q' id number p) ≡ not (touches d p)
recipe_same d q q' h id number p = rw (eqb_self id, eqb_self number) (chain_same d q q' h (reads p))

-- after the row the recipes differ at the keys that are changed after it
pub past_differ : (d : Key → Bool) (q q' : Key → Recipe) → Differ d q q' → (id number : ℕ) (p : Plan) → Differ (spread d p) (past q id number p) (past q' id number p)
unfolding past spread
past_differ d q q' h id number p k = by_has (has_key (writes p) k)
  where
    by_has : (b : Bool) → same (cond b (recipe q id number p) (q k)) (cond b (recipe q' id number p) (q' k)) ≡ not (cond b (touches d p) (d k))
    by_has true = recipe_same d q q' h id number p
    by_has false = h k

-- at each list of changed keys there are recipes that differ just there
pub some_differ : (d : Key → Bool) → Differ d (λ k. Start 0) (λ k. Start (cond (d k) 1 0))
some_differ d k = by_test (d k)
  where
    by_test : (b : Bool) → same (Start 0) (Start (cond b 1 0)) ≡ not b
    by_test true = refl
    by_test false = refl

module _ {T : Type 0} (plan : T → Plan) where
  -- the rows whose recipe changes are those that a sweep lists
  pub changed_touched : (number : ℕ → ℕ) (d : Key → Bool) (q q' : Key → Recipe) → Differ d q q' → (rows : List (ℕ × T)) → changed_between plan number q q' rows ≡ touched plan d rows
  changed_touched number d q q' h [] = refl
  changed_touched number d q q' h (r ∷ rows) =
      rw (recipe_same d q q' h r.0 (number r.0) (plan r.1), changed_touched number (spread d (plan r.1)) (past_row plan number q r) (past_row plan number q' r) (past_differ d q q' h r.0 (number r.0) (plan r.1)) rows) (by_touch (touches d (plan r.1)))
    where
      by_touch : (b : Bool) → cond (not b) (touched plan (spread d (plan r.1)) rows) (r.0 ∷ touched plan (spread d (plan r.1)) rows) ≡ cond b (r.0 ∷ touched plan (spread d (plan r.1)) rows) (touched plan (spread d (plan r.1)) rows)
      by_touch true = refl
      by_touch false = refl

  -- ids that are those of the changed rows at all recipes are those that a sweep lists
  pub changed_listed : (d : Key → Bool) (rows : List (ℕ × T)) (ids : List ℕ) → ((number : ℕ → ℕ) (q q' : Key → Recipe) → Differ d q q' → ids ≡ changed_between plan number q q' rows) → ids ≡ touched plan d rows
  changed_listed d rows ids h =
      h (λ id. id) (λ k. Start 0) (λ k. Start (cond (d k) 1 0)) (some_differ d) ∙ changed_touched (λ id. id) d (λ k. Start 0) (λ k. Start (cond (d k) 1 0)) (some_differ d) rows
