-- The origin of a key is the last entry of its writers before a place.
use Rattle.std.proofs.Common.{◌≡◌, ℕ, zero, suc, ◌≤◌, List, [], ◌∷◌, length, take, Bool, true, false, cond, Option, Some, None, refl, sym, ap, ◌∙◌, arith, slice_get, get_or}
use Rattle.std.proofs.lemmas.List.{take-map}
use Rattle.std.proofs.lemmas.Option.{slice_get-get_or}
use Rattle.std.specs.List.{filter}
use Rattle.std.specs.Map.{keys_of}
use Rattle.std.specs.Option.{option_map, option_or}
use Rattle.paris_names.specs.declared.keys.Key.{Key}
use Rattle.paris_names.specs.Keys.{has_key}
use Rattle.paris_model.specs.Instructions.{Plan, writes}
use Rattle.paris_model.specs.Recipe.{origin}
use Rattle.paris_depends.specs.Index.{Footprint, footprint, footprints, writes_key}
use Rattle.paris_depends.specs.Places.{count_to}
use Rattle.paris_depends.specs.Sides.{entry_before}
use Rattle.paris_depends.proofs.Places.{take_passing, count_within}

-- the last of ids
abbrev last_of : List ℕ → Option ℕ
last_of [] = None
last_of (x ∷ xs) = option_or (last_of xs) (Some x)

or_later : (o : Option ℕ) (x : ℕ) (y : ℕ) → o ≡ Some y → option_or o (Some x) ≡ o
or_later None x y e = absurd (cc)
or_later (Some z) x y e = refl

last_of-entry : (ids : List ℕ) → last_of ids ≡ entry_before ids (length ids)
last_of-entry [] = refl
last_of-entry (x ∷ []) = refl
last_of-entry (x ∷ y ∷ ys) =
    ap (λ o. option_or o (Some x)) (last_of-entry (y ∷ ys))
    ∙ or_later (slice_get (y ∷ ys) (length ys)) x (get_or (y ∷ ys) (length ys) 0) (slice_get-get_or (y ∷ ys) (length ys) 0 (omega arith))

first_before : (ids : List ℕ) (n : ℕ) → n ≤ length ids → entry_before (take n ids) (length (take n ids)) ≡ entry_before ids n
first_before ids zero few = refl
first_before [] (suc n) few = absurd (omega arith)
first_before (x ∷ ids) (suc zero) few = refl
first_before (x ∷ ids) (suc (suc n)) few = more (take (suc n) ids) refl (first_before ids (suc n) (omega arith))
  where
    more : (front : List ℕ) → take (suc n) ids ≡ front → entry_before front (length front) ≡ slice_get ids n → slice_get (x ∷ front) (length front) ≡ slice_get ids n
    more [] e same = absurd (no_front ids (omega arith) e)
      where
        no_front : (ys : List ℕ) → suc n ≤ length ys → take (suc n) ys ≡ [] → ⊥
        no_front [] few e = omega arith
        no_front (y ∷ ys) few e = cc
    more (y ∷ ys) e same = same

length-keys : (rows : List (ℕ × Footprint)) → length (keys_of rows) ≡ length rows
length-keys [] = refl
length-keys (r ∷ rows) = ap suc (length-keys rows)

module _ {T : Type 0} (plan : T → Plan) (k : Key) where
  origin-last : (rows : List (ℕ × T)) → option_map (λ (r : ℕ × T). r.0) (origin (λ (r : ℕ × T). plan r.1) k rows) ≡ last_of (keys_of (filter (writes_key k) (footprints plan rows)))
  origin-last [] = refl
  origin-last (x ∷ rows) = by_both (has_key (writes (plan x.1)) k) (origin (λ (r : ℕ × T). plan r.1) k rows) (origin-last rows)
    where
      by_both : (b : Bool) (o : Option (ℕ × T)) → option_map (λ (r : ℕ × T). r.0) o ≡ last_of (keys_of (filter (writes_key k) (footprints plan rows)))
          → option_map (λ (r : ℕ × T). r.0) (option_or o (cond b (Some x) None)) ≡ last_of (keys_of (cond b ((x.0, footprint (plan x.1)) ∷ filter (writes_key k) (footprints plan rows)) (filter (writes_key k) (footprints plan rows))))
      by_both true None e = ap (λ l. option_or l (Some x.0)) e
      by_both true (Some r) e = ap (λ l. option_or l (Some x.0)) e
      by_both false None e = e
      by_both false (Some r) e = e

  pub origin_is : (rows : List (ℕ × T)) (i : ℕ) → option_map (λ (r : ℕ × T). r.0) (origin (λ (r : ℕ × T). plan r.1) k (take i rows)) ≡ entry_before (keys_of (filter (writes_key k) (footprints plan rows))) (count_to (writes_key k) (footprints plan rows) i)
  origin_is rows i =
      let known : List (ℕ × Footprint) = footprints plan rows in
      let ids : List ℕ = keys_of (filter (writes_key k) known) in
      let few : count_to (writes_key k) known i ≤ length ids = omega (arith, count_within (writes_key k) known i, length-keys (filter (writes_key k) known)) in
      let front : keys_of (filter (writes_key k) (footprints plan (take i rows))) ≡ take (count_to (writes_key k) known i) ids =
      ap (λ (l : List (ℕ × Footprint)). keys_of (filter (writes_key k) l)) (sym (take-map (λ (r : ℕ × T). (r.0, footprint (plan r.1))) i rows))
      ∙ ap (λ (l : List (ℕ × Footprint)). keys_of l) (take_passing (writes_key k) known i)
      ∙ sym (take-map (λ (r : ℕ × Footprint). r.0) (count_to (writes_key k) known i) (filter (writes_key k) known))
      in
      origin-last (take i rows)
      ∙ ap last_of front
      ∙ last_of-entry (take (count_to (writes_key k) known i) ids)
      ∙ first_before ids (count_to (writes_key k) known i) few
