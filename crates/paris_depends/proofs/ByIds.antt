-- Rows that are changed by the ids that a sweep lists.
use Rattle.std.proofs.Common.{◌≡◌, ℕ, zero, suc, List, [], ◌∷◌, ◌++◌, Bool, true, false, cond, Option, Some, None, refl, sym, ap, ◌∙◌, subst, map, set, nat_eq, arith, slice_get}
use Rattle.std.proofs.lemmas.Bool.Decides.{nat_tests}
use Rattle.std.specs.Prelude.{◌||◌}
use Rattle.std.specs.Option.{option_map}
use Rattle.std.specs.List.{list_any, AllByRecursion, IsDistinct}
use Rattle.std.specs.Map.{keys_of}
use Rattle.paris_names.specs.declared.keys.Key.{Key}
use Rattle.paris_model.specs.Instructions.{Plan}
use Rattle.paris_program.specs.Program.{place_of}
use Rattle.paris_program.proofs.CallerLemmas.{place_of-first, apart_there}
use Rattle.paris_depends.specs.Sweeps.{touches, spread, touched, swept, by_ids}
use Rattle.paris_depends.proofs.Recipes.{eqb_self}

-- numbers are unequal both ways
nat_eq-flip : (m n : ℕ) → nat_eq m n ≡ false → nat_eq n m ≡ false
nat_eq-flip m n e = grind (arith, nat_tests)

-- a number is among numbers with one more last
any_last : (m : ℕ) (ids : List ℕ) (n : ℕ) → list_any (nat_eq m) (ids ++ n ∷ []) ≡ (list_any (nat_eq m) ids || nat_eq m n)
any_last m [] n = by_test (nat_eq m n)
  where
    by_test : (b : Bool) → (b || false) ≡ b
    by_test true = refl
    by_test false = refl
any_last m (i ∷ ids) n = rw (any_last m ids n) (by_test (nat_eq m i))
  where
    by_test : (b : Bool) → (b || (list_any (nat_eq m) ids || nat_eq m n)) ≡ ((b || list_any (nat_eq m) ids) || nat_eq m n)
    by_test true = refl
    by_test false = refl

or_false : (b : Bool) → (b || false) ≡ b
or_false true = refl
or_false false = refl

or_true : (b : Bool) → (b || true) ≡ true
or_true true = refl
or_true false = refl

module _ {T Y : Type 0} (changed kept : ℕ × T → Y) where
  -- one more id that no row has changes nothing
  by_ids-last : (n : ℕ) (ids : List ℕ) (rows : List (ℕ × T)) → AllByRecursion (λ id. nat_eq n id ≡ false) (keys_of rows) → by_ids changed kept (ids ++ n ∷ []) rows ≡ by_ids changed kept ids rows
  by_ids-last n ids [] apart = refl
  by_ids-last n ids (r ∷ rows) apart = rw (any_last r.0 ids n, nat_eq-flip n r.0 apart.0, or_false (list_any (nat_eq r.0) ids), by_ids-last n ids rows apart.1) refl

  pub by_ids-absent : (n : ℕ) (ids : List ℕ) (rows : List (ℕ × T)) → place_of rows n ≡ None → by_ids changed kept (ids ++ n ∷ []) rows ≡ by_ids changed kept ids rows
  by_ids-absent n ids rows none = by_ids-last n ids rows (apart_there rows n none)

  -- one more id changes the row at its place
  pub by_ids-more : (n : ℕ) (x : T) (ids : List ℕ) (rows : List (ℕ × T)) (place : ℕ) → IsDistinct nat_eq (keys_of rows) → place_of rows n ≡ Some place → slice_get rows place ≡ Some (n, x)
      → by_ids changed kept (ids ++ n ∷ []) rows ≡ set (by_ids changed kept ids rows) place (changed (n, x))
  unfolding IsDistinct
  by_ids-more n x ids [] place distinct at here = absurd (cc)
  by_ids-more n x ids (r ∷ rows) zero distinct at here =
      let same : r ≡ (n, x) = cc in
      let own : nat_eq r.0 n ≡ true = ap (λ (e : ℕ × T). nat_eq e.0 n) same ∙ eqb_self n in
      let others : AllByRecursion (λ id. nat_eq n id ≡ false) (keys_of rows) = subst (λ (e : ℕ × T). AllByRecursion (λ id. nat_eq e.0 id ≡ false) (keys_of rows)) same distinct.0 in
      rw (any_last r.0 ids n, own, or_true (list_any (nat_eq r.0) ids), by_ids-last n ids rows others) (ap (λ e. changed e ∷ by_ids changed kept ids rows) same)
  by_ids-more n x ids (r ∷ rows) (suc place) distinct at here = by_test (λ h. by_ids-more n x ids rows place distinct.1 h here) (nat_eq n r.0) refl (sym (place_of-first r rows n) ∙ at)
    where
      back : (o : Option ℕ) → option_map suc o ≡ Some (suc place) → o ≡ Some place
      back None h = absurd (cc)
      back (Some p) h = let same : suc p ≡ suc place = cc in let p_is : p ≡ place = omega arith in ap Some p_is

      by_test : (place_of rows n ≡ Some place → by_ids changed kept (ids ++ n ∷ []) rows ≡ set (by_ids changed kept ids rows) place (changed (n, x))) → (b : Bool) → nat_eq n r.0 ≡ b → cond b (Some 0) (option_map suc (place_of rows n)) ≡ Some (suc place)
          → by_ids changed kept (ids ++ n ∷ []) (r ∷ rows) ≡ set (by_ids changed kept ids (r ∷ rows)) (suc place) (changed (n, x))
      by_test more true e h = absurd (let wrong : 0 ≡ suc place = cc in omega arith)
      by_test more false e h = rw (any_last r.0 ids n, nat_eq-flip n r.0 e, or_false (list_any (nat_eq r.0) ids), more (back (place_of rows n) h)) refl

module _ {T Y : Type 0} (plan : T → Plan) (changed kept : ℕ × T → Y) where
  -- an id that no row has isn't listed
  touched-apart : (n : ℕ) (d : Key → Bool) (rows : List (ℕ × T)) → AllByRecursion (λ id. nat_eq n id ≡ false) (keys_of rows) → list_any (nat_eq n) (touched plan d rows) ≡ false
  touched-apart n d [] apart = refl
  touched-apart n d (r ∷ rows) apart = by_touch (touched-apart n (spread d (plan r.1)) rows apart.1) (touches d (plan r.1))
    where
      by_touch : list_any (nat_eq n) (touched plan (spread d (plan r.1)) rows) ≡ false → (b : Bool) → list_any (nat_eq n) (cond b (r.0 ∷ touched plan (spread d (plan r.1)) rows) (touched plan (spread d (plan r.1)) rows)) ≡ false
      by_touch later true = rw (apart.0, later) refl
      by_touch later false = later

  -- an id that no row has changes nothing
  by_ids-skip : (n : ℕ) (ids : List ℕ) (rows : List (ℕ × T)) → AllByRecursion (λ id. nat_eq n id ≡ false) (keys_of rows) → by_ids changed kept (n ∷ ids) rows ≡ by_ids changed kept ids rows
  by_ids-skip n ids [] apart = refl
  by_ids-skip n ids (r ∷ rows) apart = rw (nat_eq-flip n r.0 apart.0, by_ids-skip n ids rows apart.1) refl

  -- rows with ids of their own, changed by the ids that a sweep lists, are what the sweep makes of them
  pub by_ids-swept : (d : Key → Bool) (rows : List (ℕ × T)) → IsDistinct nat_eq (keys_of rows) → by_ids changed kept (touched plan d rows) rows ≡ swept plan changed kept d rows
  unfolding IsDistinct
  by_ids-swept d [] distinct = refl
  by_ids-swept d (r ∷ rows) distinct = by_touch (by_ids-swept (spread d (plan r.1)) rows distinct.1) (by_ids-skip r.0 (touched plan (spread d (plan r.1)) rows) rows distinct.0) (touched-apart r.0 (spread d (plan r.1)) rows distinct.0) (touches d (plan r.1))
    where
      by_touch : by_ids changed kept (touched plan (spread d (plan r.1)) rows) rows ≡ swept plan changed kept (spread d (plan r.1)) rows
          → by_ids changed kept (r.0 ∷ touched plan (spread d (plan r.1)) rows) rows ≡ by_ids changed kept (touched plan (spread d (plan r.1)) rows) rows
          → list_any (nat_eq r.0) (touched plan (spread d (plan r.1)) rows) ≡ false
          → (b : Bool) → by_ids changed kept (cond b (r.0 ∷ touched plan (spread d (plan r.1)) rows) (touched plan (spread d (plan r.1)) rows)) (r ∷ rows) ≡ cond b (changed r) (kept r) ∷ swept plan changed kept (spread d (plan r.1)) rows
      by_touch later skip apart true = rw (eqb_self r.0, skip, later) refl
      by_touch later skip apart false = rw (apart, later) refl

  -- an id that none of the rows has, none of the last ones has
  keys_of-behind : (n : ℕ) (front back : List (ℕ × T)) → AllByRecursion (λ id. nat_eq n id ≡ false) (keys_of (front ++ back)) → AllByRecursion (λ id. nat_eq n id ≡ false) (keys_of back)
  keys_of-behind n [] back apart = apart
  keys_of-behind n (r ∷ front) back apart = keys_of-behind n front back apart.1

  -- and the rows before the sweep stay
  pub by_ids-front : (d : Key → Bool) (front back : List (ℕ × T)) → IsDistinct nat_eq (keys_of (front ++ back)) → by_ids changed kept (touched plan d back) (front ++ back) ≡ map kept front ++ swept plan changed kept d back
  unfolding IsDistinct
  by_ids-front d [] back distinct = by_ids-swept d back distinct
  by_ids-front d (r ∷ front) back distinct = rw (touched-apart r.0 d back (keys_of-behind r.0 front back distinct.0), by_ids-front d front back distinct.1) refl
