-- The entries of a list where a row is put in, and where one is taken out.
use Rattle.std.proofs.Common.{◌≡◌, ℕ, zero, suc, ◌+◌, ◌<◌, List, [], ◌∷◌, length, take, Bool, true, false, cond, Some, refl, ap, ◌∙◌, arith, slice_get, subst}
use Rattle.std.specs.Prelude.{insert, remove}
use Rattle.std.specs.List.{AllByRecursion, filter}
use Rattle.std.specs.Map.{keys_of}
use Rattle.paris_names.specs.declared.keys.Key.{Key}
use Rattle.paris_names.specs.Keys.{has_key}
use Rattle.paris_depends.specs.Index.{Footprint, writes_key, reads_key}
use Rattle.paris_depends.specs.Places.{count_to, at_place}
use Rattle.paris_depends.specs.Sides.{entries, keys_on, test_of}
use Rattle.paris_depends.specs.declared.sides.Side.{Side}
use Rattle.paris_depends.specs.declared.sides.Side.TheVariants.{Writers, Readers}
use Rattle.paris_depends.proofs.Places.{count-more, count_within, length-ids}
use Rattle.paris_depends.proofs.Reaching.{at_row}

module _ {X : Type 0} (p : X → Bool) where
  -- a row that passes is put in where as many entries stand before it as rows that pass, and another changes nothing
  pub filter-insert : (xs : List X) (i : ℕ) (x : X) → filter p (insert xs i x) ≡ cond (p x) (insert (filter p xs) (count_to p xs i) x) (filter p xs)
  filter-insert [] zero x = refl
  filter-insert [] (suc i) x = refl
  filter-insert (y ∷ xs) zero x = refl
  filter-insert (y ∷ xs) (suc i) x = by_both (p y) (p x) (filter-insert xs i x)
    where
      by_both : (b c : Bool) → filter p (insert xs i x) ≡ cond c (insert (filter p xs) (count_to p xs i) x) (filter p xs)
          → cond b (y ∷ filter p (insert xs i x)) (filter p (insert xs i x)) ≡ cond c (insert (cond b (y ∷ filter p xs) (filter p xs)) (length (cond b (y ∷ filter p (take i xs)) (filter p (take i xs)))) x) (cond b (y ∷ filter p xs) (filter p xs))
      by_both true true e = ap (λ l. y ∷ l) e
      by_both true false e = ap (λ l. y ∷ l) e
      by_both false true e = e
      by_both false false e = e

  -- and where a row is taken out, its entry goes
  pub filter-remove : (xs : List X) (i : ℕ) → filter p (remove xs i) ≡ cond (at_place p xs i) (remove (filter p xs) (count_to p xs i)) (filter p xs)
  filter-remove [] zero = refl
  filter-remove [] (suc i) = refl
  filter-remove (y ∷ xs) zero = by_test (p y)
    where
      by_test : (b : Bool) → filter p xs ≡ cond b (remove (cond b (y ∷ filter p xs) (filter p xs)) 0) (cond b (y ∷ filter p xs) (filter p xs))
      by_test true = refl
      by_test false = refl
  filter-remove (y ∷ xs) (suc i) = by_both (p y) (at_place p xs i) (filter-remove xs i)
    where
      by_both : (b c : Bool) → filter p (remove xs i) ≡ cond c (remove (filter p xs) (count_to p xs i)) (filter p xs)
          → cond b (y ∷ filter p (remove xs i)) (filter p (remove xs i)) ≡ cond c (remove (cond b (y ∷ filter p xs) (filter p xs)) (length (cond b (y ∷ filter p (take i xs)) (filter p (take i xs))))) (cond b (y ∷ filter p xs) (filter p xs))
      by_both true true e = ap (λ l. y ∷ l) e
      by_both true false e = ap (λ l. y ∷ l) e
      by_both false true e = e
      by_both false false e = e

-- the ids alike
pub ids-insert : {T : Type 0} (rows : List (ℕ × T)) (i : ℕ) (r : ℕ × T) → keys_of (insert rows i r) ≡ insert (keys_of rows) i r.0
ids-insert rows zero r = refl
ids-insert [] (suc i) r = refl
ids-insert (x ∷ rows) (suc i) r = ap (λ l. x.0 ∷ l) (ids-insert rows i r)

pub ids-remove : {T : Type 0} (rows : List (ℕ × T)) (i : ℕ) → keys_of (remove rows i) ≡ remove (keys_of rows) i
ids-remove [] zero = refl
ids-remove [] (suc i) = refl
ids-remove (x ∷ rows) zero = refl
ids-remove (x ∷ rows) (suc i) = ap (λ l. x.0 ∷ l) (ids-remove rows i)

module _ (p : ℕ × Footprint → Bool) (rows : List (ℕ × Footprint)) (i : ℕ) (x : ℕ × Footprint) where
  kept-insert : keys_of (filter p (insert rows i x)) ≡ cond (p x) (insert (keys_of (filter p rows)) (count_to p rows i) x.0) (keys_of (filter p rows))
  kept-insert = ap (λ (l : List (ℕ × Footprint)). keys_of l) (filter-insert p rows i x) ∙ by_test (p x)
    where
      by_test : (b : Bool) → keys_of (cond b (insert (filter p rows) (count_to p rows i) x) (filter p rows)) ≡ cond b (insert (keys_of (filter p rows)) (count_to p rows i) x.0) (keys_of (filter p rows))
      by_test true = ids-insert (filter p rows) (count_to p rows i) x
      by_test false = refl

  kept-remove : slice_get rows i ≡ Some x → keys_of (filter p (remove rows i)) ≡ cond (p x) (remove (keys_of (filter p rows)) (count_to p rows i)) (keys_of (filter p rows))
  kept-remove at =
      ap (λ (l : List (ℕ × Footprint)). keys_of l) (filter-remove p rows i ∙ ap (λ b. cond b (remove (filter p rows) (count_to p rows i)) (filter p rows)) (at_row p rows i x at)) ∙ by_test (p x)
    where
      by_test : (b : Bool) → keys_of (cond b (remove (filter p rows) (count_to p rows i)) (filter p rows)) ≡ cond b (remove (keys_of (filter p rows)) (count_to p rows i)) (keys_of (filter p rows))
      by_test true = ids-remove (filter p rows) (count_to p rows i)
      by_test false = refl

  -- a row that passes is counted
  kept-within : slice_get rows i ≡ Some x → p x ≡ true → count_to p rows i < length (keys_of (filter p rows))
  kept-within at passes =
      let one = count-more p rows i (at_row p rows i x at ∙ passes) in
      omega (arith, one, count_within p rows (i + 1), length-ids (filter p rows))

-- the entries on a side, where a row is put in and where one is taken out
pub entries-insert : (side : Side) (rows : List (ℕ × Footprint)) (i id : ℕ) (f : Footprint) (k : Key) → entries side (insert rows i (id, f)) k ≡ cond (has_key (keys_on side f) k) (insert (entries side rows k) (count_to (test_of side k) rows i) id) (entries side rows k)
entries-insert Writers rows i id f k = kept-insert (writes_key k) rows i (id, f)
entries-insert Readers rows i id f k = kept-insert (reads_key k) rows i (id, f)

pub entries-remove : (side : Side) (rows : List (ℕ × Footprint)) (i : ℕ) (x : ℕ × Footprint) (k : Key) → slice_get rows i ≡ Some x → entries side (remove rows i) k ≡ cond (has_key (keys_on side x.1) k) (remove (entries side rows k) (count_to (test_of side k) rows i)) (entries side rows k)
entries-remove Writers rows i x k at = kept-remove (writes_key k) rows i x at
entries-remove Readers rows i x k at = kept-remove (reads_key k) rows i x at

pub entry-within : (side : Side) (rows : List (ℕ × Footprint)) (i : ℕ) (x : ℕ × Footprint) (k : Key) → slice_get rows i ≡ Some x → has_key (keys_on side x.1) k ≡ true → count_to (test_of side k) rows i < length (entries side rows k)
entry-within Writers rows i x k at has = kept-within (writes_key k) rows i x at has
entry-within Readers rows i x k at has = kept-within (reads_key k) rows i x at has

-- what holds of each row holds of the one at a place
pub all-at : {X : Type 0} (P : X → Type 0) (xs : List X) (i : ℕ) (x : X) → AllByRecursion P xs → slice_get xs i ≡ Some x → P x
all-at P [] i x all at = absurd (cc)
all-at P (y ∷ xs) zero x all at = let same : y ≡ x = cc in subst P same all.0
all-at P (y ∷ xs) (suc i) x all at = all-at P xs i x all.1 at

-- what holds of each row holds of those that are left, and of one more
pub all-remove : {X : Type 0} (P : X → Type 0) (xs : List X) (i : ℕ) → AllByRecursion P xs → AllByRecursion P (remove xs i)
all-remove P [] zero all = tt
all-remove P [] (suc i) all = tt
all-remove P (x ∷ xs) zero all = all.1
all-remove P (x ∷ xs) (suc i) all = (all.0, all-remove P xs i all.1)

pub all-insert : {X : Type 0} (P : X → Type 0) (xs : List X) (i : ℕ) (x : X) → P x → AllByRecursion P xs → AllByRecursion P (insert xs i x)
all-insert P xs zero x here all = (here, all)
all-insert P [] (suc i) x here all = (here, tt)
all-insert P (y ∷ xs) (suc i) x here all = (all.0, all-insert P xs i x here all.1)
