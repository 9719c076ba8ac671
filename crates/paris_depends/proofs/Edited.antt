-- The rows of a table, and the lists of their keys, where one row is taken out, put back or written anew.
use Rattle.std.proofs.Common.{◌≡◌, ℕ, zero, suc, ◌<◌, ◌≤◌, inl, inr, List, [], ◌∷◌, length, take, Bool, true, false, cond, Option, Some, None, nat_eq, refl, sym, ap, ◌∙◌, subst, arith, slice_get, slice_set}
use Rattle.std.specs.Prelude.{insert, remove, IfSome}
use Rattle.std.specs.List.{AllByRecursion, IsDistinct, filter}
use Rattle.std.specs.Map.{keys_of}
use Rattle.std.specs.Option.{option_map}
use Rattle.std.proofs.lemmas.List.Edits.{length-insert, length-remove}
use Rattle.std.proofs.lemmas.Option.{slice_get-map}
use Rattle.paris_names.specs.declared.keys.Key.{Key}
use Rattle.paris_names.specs.Keys.{has_key, key_slot}
use Rattle.paris_program.specs.Program.{id_at, place_of, with_row}
use Rattle.paris_program.proofs.CallerLemmas.{row_there}
use Rattle.paris_depends.specs.Index.{Footprint}
use Rattle.paris_depends.specs.Lists.{Lists, HasRoomFor, room_at}
use Rattle.paris_depends.specs.Places.{count_to, nth_place}
use Rattle.paris_depends.specs.Sides.{AreEntries, entries, keys_on, test_of}
use Rattle.paris_depends.specs.declared.sides.Side.{Side}
use Rattle.paris_depends.proofs.CallerLemmas.{remove-insert, same_place}
use Rattle.paris_depends.proofs.Kept.{entries-insert, ids-insert}
use Rattle.paris_depends.proofs.Places.{count_within, found_at, item_at_place, length-ids, place_count}

-- the id of a row is that at its place
pub id_there : {T : Type 0} (rows : List (ℕ × T)) (place : ℕ) (r : ℕ × T) → slice_get rows place ≡ Some r → r.0 ≡ id_at rows place
id_there [] place r at = absurd (cc)
id_there {T} (x ∷ rows) zero r at = let same : x ≡ r = cc in sym (ap (λ (y : ℕ × T). y.0) same)
id_there (x ∷ rows) (suc place) r at = id_there rows place r at

-- a row that is written under its id
pub row_written : {T : Type 0} (rows : List (ℕ × T)) (place : ℕ) (old new : ℕ × T) (x : T) → slice_get rows place ≡ Some old → new ≡ (old.0, x) → slice_set rows place new ≡ with_row rows place x
row_written {T} rows place old new x at is = ap (λ (r : ℕ × T). slice_set rows place r) (is ∙ ap (λ (n : ℕ). (n, x)) (id_there rows place old at))

module _ {X : Type 0} where
  -- an item that is taken out and put back
  pub put-back : (xs : List X) (i : ℕ) (x : X) → slice_get xs i ≡ Some x → insert (remove xs i) i x ≡ xs
  put-back [] i x at = absurd (cc)
  put-back (y ∷ xs) zero x at = let same : y ≡ x = cc in ap (λ (z : X). z ∷ xs) (sym same)
  put-back (y ∷ xs) (suc i) x at = ap (λ l. y ∷ l) (put-back xs i x at)

  -- the items before one that is taken out stay
  pub take-remove : (xs : List X) (i : ℕ) → take i (remove xs i) ≡ take i xs
  take-remove [] zero = refl
  take-remove [] (suc i) = refl
  take-remove (x ∷ xs) zero = refl
  take-remove (x ∷ xs) (suc i) = ap (λ l. x ∷ l) (take-remove xs i)

  -- one that is written is taken out
  pub remove-written : (xs : List X) (i : ℕ) (x : X) → remove (slice_set xs i x) i ≡ remove xs i
  remove-written [] i x = refl
  remove-written (y ∷ xs) zero x = refl
  remove-written (y ∷ xs) (suc i) x = ap (λ l. y ∷ l) (remove-written xs i x)

  -- each of the others stands on the same side of the place as before
  pub stands : (xs : List X) (i j : ℕ) (x : X) → slice_get (remove xs i) j ≡ Some x → (k : ℕ) × (slice_get xs k ≡ Some x) × (k < i → j < i) × (i ≤ k → i ≤ j)
  stands [] zero j x at = absurd (cc)
  stands [] (suc i) j x at = absurd (cc)
  stands (y ∷ xs) zero j x at = (suc j, at, (λ h. absurd (omega arith)), (λ h. omega arith))
  stands (y ∷ xs) (suc i) zero x at = (zero, at, (λ h. omega arith), (λ h. absurd (omega arith)))
  stands (y ∷ xs) (suc i) (suc j) x at =
      let rest = stands xs i j x at in
      (suc rest.0, rest.1, (λ h. let up = rest.2 (omega arith) in omega (arith, up)), (λ h. let up = rest.3 (omega arith) in omega (arith, up)))

  pub count-remove : (p : X → Bool) (xs : List X) (i : ℕ) → count_to p (remove xs i) i ≡ count_to p xs i
  count-remove p xs i = ap (λ (l : List X). length (filter p l)) (take-remove xs i)

-- the row of an entry
entry_row : {T : Type 0} (p : ℕ × T → Bool) (rows : List (ℕ × T)) (c id : ℕ) → slice_get (keys_of (filter p rows)) c ≡ Some id → (r : ℕ × T) × (r.0 ≡ id) × (slice_get rows (nth_place p rows c) ≡ Some r)
entry_row {T} p rows c id at = by_entry (slice_get (filter p rows) c) refl (sym (slice_get-map (λ (e : ℕ × T). e.0) (filter p rows) c) ∙ at)
  where
    by_entry : (o : Option (ℕ × T)) → slice_get (filter p rows) c ≡ o → option_map (λ (e : ℕ × T). e.0) o ≡ Some id → (r : ℕ × T) × (r.0 ≡ id) × (slice_get rows (nth_place p rows c) ≡ Some r)
    by_entry None e h = absurd (cc)
    by_entry (Some r) e h = (r, (let same : r.0 ≡ id = cc in same), item_at_place p rows c r e)

module _ (side : Side) (key : Key) (rows : List (ℕ × Footprint)) (place : ℕ) where
  abbrev test : ℕ × Footprint → Bool
  test = test_of side key

  -- no more entries stand before the place than there are
  pub entries_enough : (ids : List ℕ) → AreEntries side key rows place ids → count_to test rows place ≤ length ids
  entries_enough ids (inl is) = omega (arith, ap length is, count_within test rows place, length-ids (filter test rows))
  entries_enough ids (inr is) =
      omega (arith, ap length is, count_within test (remove rows place) place, length-ids (filter test (remove rows place)), count-remove test rows place)

  -- an entry is one of those before the place where its row stands before it
  ranked : (ids : List ℕ) (m id at : ℕ) → IsDistinct nat_eq (keys_of rows) → place < length rows → AreEntries side key rows place ids → slice_get ids m ≡ Some id → IfSome (place_of rows id) (λ q. at ≡ q)
      → (at < place → m < count_to test rows place) × (place ≤ at → count_to test rows place ≤ m)
  ranked ids m id at distinct within (inl is) there found =
      let e = entry_row test rows m id (ap (λ (l : List ℕ). slice_get l m) (sym is) ∙ there) in
      let q = ap (place_of rows) (sym e.1) ∙ found_at rows (nth_place test rows m) e.0 distinct e.2 in
      let here : at ≡ nth_place test rows m = subst (λ (o : Option ℕ). IfSome o (λ q. at ≡ q)) q found in
      let counted = place_count test rows m place (omega arith) in
      ((λ h. counted.0 (omega (arith, here))), (λ h. counted.1 (omega (arith, here))))
  ranked ids m id at distinct within (inr is) there found =
      let base = remove rows place in
      let e = entry_row test base m id (ap (λ (l : List ℕ). slice_get l m) (sym is) ∙ there) in
      let s = stands rows place (nth_place test base m) e.0 e.2 in
      let q = ap (place_of rows) (sym e.1) ∙ found_at rows s.0 e.0 distinct s.1 in
      let here : at ≡ s.0 = subst (λ (o : Option ℕ). IfSome o (λ q. at ≡ q)) q found in
      let long = length-remove rows place within in
      let counted = place_count test base m place (omega (arith, long)) in
      let same = count-remove test rows place in
      ((λ h. let c = counted.0 (s.2 (omega (arith, here))) in omega (arith, same, c)), (λ h. let c = counted.1 (s.3 (omega (arith, here))) in omega (arith, same, c)))

  -- the same, by the places of other rows with the same ids
  pub ranked_by : {S : Type 0} (others : List (ℕ × S)) → keys_of others ≡ keys_of rows → (ids : List ℕ) (m id at : ℕ) → IsDistinct nat_eq (keys_of others) → place < length rows → AreEntries side key rows place ids → slice_get ids m ≡ Some id → IfSome (place_of others id) (λ q. at ≡ q)
      → (at < place → m < count_to test rows place) × (place ≤ at → count_to test rows place ≤ m)
  ranked_by others same ids m id at distinct within is there found =
      let P : List ℕ → Type 0 = IsDistinct nat_eq in
      ranked ids m id at (subst P same distinct) within is there (subst (λ (o : Option ℕ). IfSome o (λ q. at ≡ q)) (same_place others rows id same) found)

-- where the other rows of a program are those of an index, the ids are those of the program once its row is put in
pub all_ids : {S T : Type 0} (rows : List (ℕ × S)) (others : List (ℕ × T)) (id place : ℕ) (x : T) → place_of rows id ≡ Some place → remove (keys_of rows) place ≡ keys_of others → keys_of rows ≡ keys_of (insert others place (id, x))
all_ids {S} rows others id place x at same =
    let there = row_there rows id place at in
    sym
    (ids-insert others place (id, x)
    ∙ ap (λ ids. insert ids place id) (sym same)
    ∙ put-back (keys_of rows) place id (slice_get-map (λ (r : ℕ × S). r.0) rows place ∙ ap (option_map (λ (r : ℕ × S). r.0)) there.1))

-- the entries of all rows, by those of all but one
pub entries-back : (side : Side) (rows : List (ℕ × Footprint)) (i : ℕ) (x : ℕ × Footprint) (k : Key) → slice_get rows i ≡ Some x
    → entries side rows k ≡ cond (has_key (keys_on side x.1) k) (insert (entries side (remove rows i) k) (count_to (test_of side k) rows i) x.0) (entries side (remove rows i) k)
entries-back side rows i x k at =
    ap (λ (l : List (ℕ × Footprint)). entries side l k) (sym (put-back rows i x at))
    ∙ entries-insert side (remove rows i) i x.0 x.1 k
    ∙ ap (λ n. cond (has_key (keys_on side x.1) k) (insert (entries side (remove rows i) k) n x.0) (entries side (remove rows i) k)) (count-remove (test_of side k) rows i)

-- where the row has not the key, they are the same
pub entries-kept : (side : Side) (rows : List (ℕ × Footprint)) (i : ℕ) (x : ℕ × Footprint) (k : Key) → slice_get rows i ≡ Some x → cond (has_key (keys_on side x.1) k) (entries side rows k) (entries side (remove rows i) k) ≡ entries side rows k
entries-kept side rows i x k at = by_test (has_key (keys_on side x.1) k) (entries-back side rows i x k at)
  where
    by_test : (b : Bool) → entries side rows k ≡ cond b (insert (entries side (remove rows i) k) (count_to (test_of side k) rows i) x.0) (entries side (remove rows i) k) → cond b (entries side rows k) (entries side (remove rows i) k) ≡ entries side rows k
    by_test true e = refl
    by_test false e = sym e

module _ {X : Type 0} where
  got-insert : (xs : List X) (i : ℕ) (x : X) → i ≤ length xs → slice_get (insert xs i x) i ≡ Some x
  got-insert xs zero x within = refl
  got-insert [] (suc i) x within = absurd (omega arith)
  got-insert (y ∷ xs) (suc i) x within = got-insert xs i x (omega arith)

  got-written : (xs : List X) (i : ℕ) (x : X) → i < length xs → slice_get (slice_set xs i x) i ≡ Some x
  got-written [] i x within = absurd (omega arith)
  got-written (y ∷ xs) zero x within = refl
  got-written (y ∷ xs) (suc i) x within = got-written xs i x (omega arith)

  length-written : (xs : List X) (i : ℕ) (x : X) → length (slice_set xs i x) ≡ length xs
  length-written [] i x = refl
  length-written (y ∷ xs) zero x = refl
  length-written (y ∷ xs) (suc i) x = ap suc (length-written xs i x)

  -- what holds of each item holds of each where another is written
  pub all-written : (P : X → Type 0) (xs : List X) (i : ℕ) (x : X) → P x → AllByRecursion P xs → AllByRecursion P (slice_set xs i x)
  all-written P [] i x here all = tt
  all-written P (y ∷ xs) zero x here all = (here, all.1)
  all-written P (y ∷ xs) (suc i) x here all = (all.0, all-written P xs i x here all.1)

  -- what holds of the item at a place holds of each item there
  pub only_there : (P : X → Type 0) (xs : List X) (i : ℕ) (x : X) → slice_get xs i ≡ Some x → P x → (y : X) → slice_get xs i ≡ Some y → P y
  only_there P xs i x at has y here = let same : x ≡ y = cc in subst P same has

  -- items to which one was added, and items of which one was written
  pub added : (xs new : List X) (i : ℕ) (x : X) → i ≤ length xs → new ≡ insert xs i x → (i < length new) × (remove new i ≡ xs) × (slice_get new i ≡ Some x)
  added xs new i x within is =
      let long = length-insert xs i x within in
      subst (λ (l : List X). (i < length l) × (remove l i ≡ xs) × (slice_get l i ≡ Some x)) (sym is) (omega (arith, long, within), remove-insert xs i x within, got-insert xs i x within)

  pub written : (xs new : List X) (i : ℕ) (x : X) → i < length xs → new ≡ slice_set xs i x → (i < length new) × (remove new i ≡ remove xs i) × (slice_get new i ≡ Some x)
  written xs new i x within is =
      let long = length-written xs i x in
      subst (λ (l : List X). (i < length l) × (remove l i ≡ remove xs i) × (slice_get l i ≡ Some x)) (sym is) (omega (arith, long, within), remove-written xs i x, got-written xs i x within)

-- lists with no less room have room for the same keys
pub room_kept : (old new : Lists) (keys : List Key) → ((s : ℕ) → room_at old s ≤ room_at new s) → HasRoomFor old keys → HasRoomFor new keys
room_kept old new keys more has k in_keys =
    let had = has k in_keys in
    let up = more (key_slot k) in
    omega (arith, had, up)
