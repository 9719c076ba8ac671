-- Steps of the loops over reaches and keys.
use Rattle.std.proofs.Common.{◌≡◌, ℕ, zero, suc, ◌+◌, ◌<◌, List, [], ◌∷◌, ◌++◌, length, map, take, drop, set, get_or, Option, Some, None, unwrap_or, refl, sym, ap, ◌∙◌, arith, slice_get}
use Rattle.std.proofs.lemmas.List.{take_more, map-append, append_assoc}
use Rattle.std.proofs.lemmas.Option.{slice_get_within, get_or_from_slice_get}
use Rattle.std.specs.List.{filter}
use Rattle.std.specs.Map.{keys_of}
use Rattle.std.specs.Option.{IfSome, IsSome}
use Rattle.paris_depends.specs.Index.{Footprint, reads_key}
use Rattle.paris_depends.specs.Reaches.{IsReach}
use Rattle.paris_depends.specs.declared.reaches.Reach.{Reach}
use Rattle.paris_depends.proofs.Places.{count-more, count_within, length-ids}

-- where a reach hits a row, that reader is among the key's readers
pub reader_left : (rows : List (ℕ × Footprint)) (i : ℕ) (r : Reach) → IsReach rows i r → r.hit < length rows → r.next < length (keys_of (filter (reads_key r.key) rows))
reader_left rows i r known within =
    let one = count-more (reads_key r.key) rows r.hit (known.reads within) in
    let all = count_within (reads_key r.key) rows (r.hit + 1) in
    let count = known.counted within in
    omega (arith, one, all, count, length-ids (filter (reads_key r.key) rows))

module _ {X : Type 0} (f : X → X) where
  abbrev partly : List X → ℕ → List X
  partly xs i = map f (take i xs) ++ drop i xs

  -- the next item of a list of which the first are mapped
  item_partly : (xs : List X) (i : ℕ) (d : X) → get_or (partly xs i) i d ≡ get_or xs i d
  item_partly [] zero d = refl
  item_partly [] (suc i) d = refl
  item_partly (x ∷ xs) zero d = refl
  item_partly (x ∷ xs) (suc i) d = item_partly xs i d

  set_partly : (xs : List X) (i : ℕ) (d : X) → i < length xs → set (partly xs i) i (f (get_or xs i d)) ≡ partly xs (suc i)
  set_partly [] i d within = absurd (omega arith)
  set_partly (x ∷ xs) zero d within = refl
  set_partly (x ∷ xs) (suc i) d within = ap (λ l. f x ∷ l) (set_partly xs i d (omega arith))

  length-partly : (xs : List X) (i : ℕ) → length (partly xs i) ≡ length xs
  length-partly [] zero = refl
  length-partly [] (suc i) = refl
  length-partly (x ∷ xs) zero = refl
  length-partly (x ∷ xs) (suc i) = ap suc (length-partly xs i)

  -- the first items are mapped, and then one more
  pub partly-more : (xs l : List X) (i : ℕ) (x y : X) → l ≡ map f (take i xs) ++ drop i xs → i < length xs → x ≡ get_or l i x → y ≡ f x → set l i y ≡ map f (take (i + 1) xs) ++ drop (i + 1) xs
  partly-more xs l i x y is long at made =
      let same : x ≡ get_or xs i x = at ∙ ap (λ (m : List X). get_or m i x) is ∙ item_partly xs i x in
      ap (λ (m : List X). set m i y) is
      ∙ ap (λ (z : X). set (partly xs i) i z) (made ∙ ap f same)
      ∙ set_partly xs i x long
      ∙ ap (partly xs) (let e : suc i ≡ i + 1 = omega arith in e)

-- one more item is mapped and pushed
pub pushed-more : {K R : Type 0} (f : K → R) (old items new : List R) (o : Option (List K)) (i : ℕ) (k : K) (r : R) → items ≡ old ++ map f (take i (unwrap_or o [])) → IsSome o → IfSome o (λ ks. slice_get ks i ≡ Some k)
    → r ≡ f k → new ≡ items ++ r ∷ [] → new ≡ old ++ map f (take (i + 1) (unwrap_or o []))
pushed-more f old items new None i k r so_far there at made more = absurd (cc)
pushed-more f old items new (Some ks) i k r so_far there at made more =
    more
    ∙ ap (λ l. l ++ r ∷ []) so_far
    ∙ append_assoc old (map f (take i ks)) (r ∷ [])
    ∙ ap (λ x. old ++ (map f (take i ks) ++ x ∷ [])) made
    ∙ ap (λ l. old ++ l) (sym (map-append f (take i ks) (k ∷ [])))
    ∙ ap (λ l. old ++ map f l) (sym (take_more ks i k (slice_get_within ks i k at) ∙ ap (λ x. take i ks ++ x ∷ []) (get_or_from_slice_get ks i k k at)))
