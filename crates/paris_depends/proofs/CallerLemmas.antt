-- What a caller cites that keeps an index of the rows of its program.
use Rattle.std.proofs.Common.{◌≡◌, ℕ, zero, suc, ◌+◌, ◌*◌, ◌<◌, ◌≤◌, List, [], ◌∷◌, length, false, cond, Option, Some, None, nat_eq, refl, sym, ap, ◌∙◌, arith}
use Rattle.std.proofs.Math.Nat.{mul-le-mul}
use Rattle.std.proofs.lemmas.Bool.Decides.{nat_tests}
use Rattle.std.specs.List.{AllByRecursion}
use Rattle.std.specs.Option.{option_map, unwrap_or}
use Rattle.std.specs.Prelude.{insert, position, remove, slice_get}
use Rattle.paris_model.specs.Instructions.{Plan}
use Rattle.paris_program.specs.Program.{AreBelow, AreIds, ids_of, place_in, place_of, with_row}
use Rattle.paris_program.proofs.CallerLemmas.{apart_there, ids-with_row, place_of-first, row_there}
use Rattle.paris_depends.specs.Index.{footprint, footprints}
use Rattle.paris_depends.proofs.Kept.{ids-remove}
use Rattle.paris_depends.proofs.NewRows.{no_place}
use Rattle.paris_depends.proofs.Places.{nat_eq-self}
use Rattle.paris_depends.proofs.Slots.{map-insert, map-remove}

-- the looks that rows of a program may take, in a program of at most 4,096 rows
pub few_looks : (keys rows : ℕ) → keys ≤ 128 → rows ≤ 4096 → (keys + 3 * rows) * (rows + 129) ≤ 52457600
few_looks keys rows few short =
    let most : (keys + 3 * rows) * (rows + 129) ≤ 12416 * 4225 = mul-le-mul (let a : keys + 3 * rows ≤ 12416 = omega arith in a) (let b : rows + 129 ≤ 4225 = omega arith in b) in
    omega (arith, most)

pub place_at : {T : Type 0} (rows : List (ℕ × T)) (id place : ℕ) → place_of rows id ≡ Some place → place_in rows id ≡ place
place_at rows id place at = ap (λ (o : Option ℕ). unwrap_or o 0) at

-- an id has the same place among rows with the same ids
pub same_place : {S T : Type 0} (rows : List (ℕ × S)) (others : List (ℕ × T)) (id : ℕ) → ids_of rows ≡ ids_of others → place_of rows id ≡ place_of others id
same_place rows others id same = ap (λ ids. position (nat_eq id) ids) same

-- an item that is put in and taken out again leaves the list
pub remove-insert : {X : Type 0} (xs : List X) (i : ℕ) (x : X) → i ≤ length xs → remove (insert xs i x) i ≡ xs
remove-insert xs zero x within = refl
remove-insert [] (suc i) x within = absurd (omega arith)
remove-insert (y ∷ xs) (suc i) x within = ap (λ l. y ∷ l) (remove-insert xs i x (omega arith))

below_new : (next : ℕ) (ids : List ℕ) → AreBelow next ids → AllByRecursion (λ i. nat_eq next i ≡ false) ids
below_new next [] are = tt
below_new next (id ∷ ids) are = (let below : id < next = are.1 in grind (arith, nat_tests), below_new next ids are.2)

module _ {T : Type 0} where
  -- the next id of a program is new
  pub next_new : (rows : List (ℕ × T)) (next : ℕ) → AreIds next (ids_of rows) → place_of rows next ≡ None
  next_new rows next are = no_place rows next (below_new next (ids_of rows) are.below)

  -- a row that is put in stands at its place
  pub place-insert : (rows : List (ℕ × T)) (place id : ℕ) (row : T) → place ≤ length rows → place_of rows id ≡ None → place_of (insert rows place (id, row)) id ≡ Some place
  place-insert rows zero id row within new = place_of-first (id, row) rows id ∙ ap (λ b. cond b (Some 0) (option_map suc (place_of rows id))) (nat_eq-self id)
  place-insert [] (suc place) id row within new = absurd (omega arith)
  place-insert (r ∷ rows) (suc place) id row within new =
      let apart = apart_there (r ∷ rows) id new in
      let later = no_later rows id (sym (place_of-first r rows id ∙ ap (λ b. cond b (Some 0) (option_map suc (place_of rows id))) apart.0) ∙ new) in
      place_of-first r (insert rows place (id, row)) id
      ∙ ap (λ b. cond b (Some 0) (option_map suc (place_of (insert rows place (id, row)) id))) apart.0
      ∙ ap (option_map suc) (place-insert rows place id row (omega arith) later)
    where
      no_later : (rows : List (ℕ × T)) (id : ℕ) → option_map suc (place_of rows id) ≡ None → place_of rows id ≡ None
      no_later rows id e = none (place_of rows id) e
        where
          none : (o : Option ℕ) → option_map suc o ≡ None → o ≡ None
          none None e = refl
          none (Some n) e = absurd (cc)

  -- the rows beside one that was put in
  pub others-insert : (rows : List (ℕ × T)) (place id : ℕ) (row : T) → place ≤ length rows → place_of rows id ≡ None → remove (ids_of (insert rows place (id, row))) (place_in (insert rows place (id, row)) id) ≡ ids_of rows
  others-insert rows place id row within new =
      ap (remove (ids_of (insert rows place (id, row)))) (place_at (insert rows place (id, row)) id place (place-insert rows place id row within new))
      ∙ sym (ids-remove (insert rows place (id, row)) place)
      ∙ ap (λ (l : List (ℕ × T)). ids_of l) (remove-insert rows place (id, row) within)

module _ {T : Type 0} (plan : T → Plan) where
  pub ids-footprints : (rows : List (ℕ × T)) → ids_of (footprints plan rows) ≡ ids_of rows
  ids-footprints [] = refl
  ids-footprints (r ∷ rows) = ap (λ ids. r.0 ∷ ids) (ids-footprints rows)

  pub footprints-insert : (rows : List (ℕ × T)) (place id : ℕ) (row : T) → footprints plan (insert rows place (id, row)) ≡ insert (footprints plan rows) place (id, footprint (plan row))
  footprints-insert rows place id row = map-insert (λ (r : ℕ × T). (r.0, footprint (plan r.1))) rows place (id, row)

  pub footprints-remove : (rows : List (ℕ × T)) (place : ℕ) → footprints plan (remove rows place) ≡ remove (footprints plan rows) place
  footprints-remove rows place = map-remove (λ (r : ℕ × T). (r.0, footprint (plan r.1))) rows place

  -- a row that is taken out, and put in with another plan
  pub footprints-replace : (rows : List (ℕ × T)) (place id : ℕ) (row : T) → place_of rows id ≡ Some place → footprints plan (with_row rows place row) ≡ insert (remove (footprints plan rows) place) place (id, footprint (plan row))
  footprints-replace rows place id row at = let there = row_there rows id place at in replaced rows place there.0 there.1
    where
      replaced : (rows : List (ℕ × T)) (place : ℕ) (old : T) → slice_get rows place ≡ Some (id, old) → footprints plan (with_row rows place row) ≡ insert (remove (footprints plan rows) place) place (id, footprint (plan row))
      replaced [] place old here = absurd (cc)
      replaced (r ∷ rows) zero old here = let same : r ≡ (id, old) = cc in ap (λ (x : ℕ × T). (x.0, footprint (plan row)) ∷ footprints plan rows) same
      replaced (r ∷ rows) (suc place) old here = ap (λ l. (r.0, footprint (plan r.1)) ∷ l) (replaced rows place old here)

  -- the rows beside one whose data is replaced
  pub others-replace : (rows : List (ℕ × T)) (place id : ℕ) (row : T) → place_of rows id ≡ Some place
      → remove (ids_of (with_row rows place row)) (place_in (with_row rows place row) id) ≡ ids_of (remove (footprints plan rows) place)
  others-replace rows place id row at =
      ap (remove (ids_of (with_row rows place row))) (place_at (with_row rows place row) id place (same_place (with_row rows place row) rows id (ids-with_row rows place row) ∙ at))
      ∙ ap (λ ids. remove ids place) (ids-with_row rows place row ∙ sym (ids-footprints rows))
      ∙ sym (ids-remove (footprints plan rows) place)
