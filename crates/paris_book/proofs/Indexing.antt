-- The index of a program's rows, after rows are put in, taken out, replaced, and changed in all but their plans.
use Rattle.std.proofs.Common.{◌≡◌, ℕ, zero, suc, ◌≤◌, List, [], ◌∷◌, length, set, Option, Some, nat_eq, refl, sym, ap, ◌∙◌, subst, arith, slice_get, slice_set}
use Rattle.std.proofs.lemmas.List.{length-map, map-set}
use Rattle.std.proofs.lemmas.Option.{slice_get-map}
use Rattle.std.specs.Prelude.{insert, remove, IsSome, position, slice_index}
use Rattle.std.specs.List.{IsDistinct}
use Rattle.std.specs.Option.{option_map, unwrap_or}
use Rattle.paris_model.specs.Instructions.{Plan}
use Rattle.paris_program.specs.Program.{ids_of, place_of, place_in, id_at, with_row}
use Rattle.paris_program.proofs.CallerLemmas.{length-with_row}
use Rattle.paris_program.proofs.Owning.{place_found}
use Rattle.paris_depends.specs.Index.{Footprint, footprint, footprints}
use Rattle.paris_depends.proofs.CallerLemmas.{ids-footprints, footprints-insert, footprints-remove, remove-insert}
use Rattle.paris_depends.proofs.Edited.{put-back}
use Rattle.paris_depends.proofs.Slots.{map-insert, map-remove}
use Rattle.paris_book.specs.Entries.{Entry}
use Rattle.paris_book.specs.Indexed.{IsIndexed}
use Rattle.paris_book.specs.Marks.{data_plan}
use Rattle.paris_book.specs.Statuses.{status_in, statuses_of}
use Rattle.paris_book.specs.Rows.{RowData}
use Rattle.paris_edits.specs.declared.rows.Status.{Status}

module _ {X : Type 0} where
  put_there : (xs : List X) (i : ℕ) (x : X) → i ≤ length xs → slice_get (insert xs i x) i ≡ Some x
  put_there xs zero x within = refl
  put_there [] (suc i) x within = absurd (omega arith)
  put_there (y ∷ xs) (suc i) x within = put_there xs i x (omega arith)

module _ {T : Type 0} where
  module _ (plan : T → Plan) where
    pub place_of-footprints : (rows : List (ℕ × T)) (id : ℕ) → place_of (footprints plan rows) id ≡ place_of rows id
    place_of-footprints rows id = ap (λ l. position (nat_eq id) l) (ids-footprints plan rows)

    -- a change that leaves a row's plan leaves the index
    pub footprints-changed : (rows : List (ℕ × T)) (place : ℕ) (x y : T) → slice_get rows place ≡ Some (id_at rows place, x) → plan y ≡ plan x → footprints plan (with_row rows place y) ≡ footprints plan rows
    footprints-changed [] place x y at same = absurd (cc)
    footprints-changed (r ∷ rows) zero x y at same =
        let here : r ≡ (r.0, x) = cc in
        let plans : plan y ≡ plan r.1 = same ∙ ap (λ (e : ℕ × T). plan e.1) (sym here) in
        ap (λ p. (r.0, footprint p) ∷ footprints plan rows) plans
    footprints-changed (r ∷ rows) (suc place) x y at same = ap (λ l. (r.0, footprint (plan r.1)) ∷ l) (footprints-changed rows place x y at same)

    -- of a program into which a row was put: the other rows, and the plan of the one
    pub put_others : (rows new : List (ℕ × T)) (place : ℕ) (r : ℕ × T) → place ≤ length rows → new ≡ insert rows place r → remove (footprints plan new) place ≡ footprints plan rows
    put_others rows new place r within is =
        let one : ℕ × T → ℕ × Footprint = λ r. (r.0, footprint (plan r.1)) in
        let long = length-map rows one in
        ap (λ l. remove (footprints plan l) place) is
        ∙ ap (λ l. remove l place) (footprints-insert plan rows place r.0 r.1)
        ∙ remove-insert (footprints plan rows) place (one r) (omega (arith, long))

    pub put_plan : (rows new : List (ℕ × T)) (place : ℕ) (r e : ℕ × T) → place ≤ length rows → new ≡ insert rows place r → slice_get new place ≡ Some e → plan r.1 ≡ plan e.1
    put_plan rows new place r e within is at =
        ap (λ (o : Option (ℕ × T)). plan (unwrap_or o r).1) (sym (put_there rows place r within) ∙ ap (λ l. slice_get l place) (sym is) ∙ at)

    -- the keys of a row that is given other data
    pub replaced_all : (rows new : List (ℕ × T)) (index other : List (ℕ × Footprint)) (id place : ℕ) (x : T) → footprints plan rows ≡ index → place_of rows id ≡ Some place → new ≡ with_row rows place x → other ≡ with_row index (place_in index id) (footprint (plan x))
        → footprints plan new ≡ other
    replaced_all rows new index other id place x indexed at is put =
        let one : ℕ × T → ℕ × Footprint = λ r. (r.0, footprint (plan r.1)) in
        let f : Footprint = footprint (plan x) in
        ap (λ (l : List (ℕ × T)). footprints plan l) is
        ∙ map-set one rows place (id_at rows place, x)
        ∙ ap (λ (ids : List ℕ). slice_set (footprints plan rows) place (slice_index ids place, f)) (sym (ids-footprints plan rows))
        ∙ ap (λ (o : Option ℕ). with_row (footprints plan rows) (unwrap_or o 0) f) (sym (place_of-footprints rows id ∙ at))
        ∙ ap (λ (l : List (ℕ × Footprint)). with_row l (place_in l id) f) indexed
        ∙ sym put

    -- of the row at a place: the other rows' ids, and all rows after it was added to the others
    pub others_ids : (rows : List (ℕ × T)) (index : List (ℕ × Footprint)) (place : ℕ) (r : ℕ × T) → IsDistinct nat_eq (ids_of rows) → slice_get rows place ≡ Some r → remove (footprints plan rows) place ≡ index → remove (ids_of rows) (place_in rows r.0) ≡ ids_of index
    others_ids rows index place r distinct at is =
        ap (λ o. remove (ids_of rows) (unwrap_or o 0)) (place_found rows place r distinct at)
        ∙ ap (λ l. remove l place) (sym (ids-footprints plan rows))
        ∙ sym (map-remove (λ (r : ℕ × Footprint). r.0) (footprints plan rows) place)
        ∙ ap (λ (l : List (ℕ × Footprint)). ids_of l) is

    pub added_all : (rows : List (ℕ × T)) (index new : List (ℕ × Footprint)) (place : ℕ) (r : ℕ × T) → IsDistinct nat_eq (ids_of rows) → slice_get rows place ≡ Some r → remove (footprints plan rows) place ≡ index → new ≡ insert index (place_in rows r.0) (r.0, footprint (plan r.1))
        → footprints plan rows ≡ new
    added_all rows index new place r distinct at is put =
        let one : ℕ × T → ℕ × Footprint = λ r. (r.0, footprint (plan r.1)) in
        sym (put-back (footprints plan rows) place (one r) (slice_get-map one rows place ∙ ap (option_map one) at))
        ∙ ap (λ l. insert l place (one r)) is
        ∙ ap (λ o. insert index (unwrap_or o 0) (one r)) (sym (place_found rows place r distinct at))
        ∙ sym put

remove_fewer : {X : Type 0} (xs : List X) (i : ℕ) → length (remove xs i) ≤ length xs
remove_fewer [] zero = omega arith
remove_fewer [] (suc i) = omega arith
remove_fewer (x ∷ xs) zero = omega arith
remove_fewer (x ∷ xs) (suc i) = let rest = remove_fewer xs i in omega (arith, rest)

-- ---- of the rows of a book

-- the index finds each row
pub found_in_index : (rows : List Entry) (index : List (ℕ × Footprint)) (id : ℕ) → footprints data_plan rows ≡ index → IsSome (place_of rows id) → IsSome (place_of index id)
found_in_index rows index id is there = subst IsSome (sym (place_of-footprints data_plan rows id) ∙ ap (λ (l : List (ℕ × Footprint)). place_of l id) is) there

-- and has their ids
pub ids_indexed : (rows : List Entry) (index : List (ℕ × Footprint)) → footprints data_plan rows ≡ index → ids_of rows ≡ ids_of index
ids_indexed rows index is = sym (ids-footprints data_plan rows) ∙ ap (λ (l : List (ℕ × Footprint)). ids_of l) is

-- there is a status for each place
pub as_many : (rows : List Entry) (index : List (ℕ × Footprint)) (statuses : List Status) → IsIndexed rows index statuses → length statuses ≡ length rows
as_many rows index statuses w = ap length (sym w.standing) ∙ length-map rows status_in

-- a row whose plan stays, and whose status is written
pub still_indexed : (rows : List Entry) (index : List (ℕ × Footprint)) (statuses : List Status) (place : ℕ) (x y : RowData) → IsIndexed rows index statuses → slice_get rows place ≡ Some (id_at rows place, x) → y.plan ≡ x.plan
    → IsIndexed (with_row rows place y) index (set statuses place y.status)
still_indexed rows index statuses place x y w at same =
    let long = length-with_row rows place y in
    let few = w.few in
    record {
      indexed = footprints-changed data_plan rows place x y at same ∙ w.indexed;
      few = omega (arith, long, few);
      standing = map-set status_in rows place (id_at rows place, y) ∙ ap (λ (l : List Status). set l place y.status) w.standing;
    }

-- a row taken out
pub fewer_indexed : (rows new : List Entry) (index other : List (ℕ × Footprint)) (statuses left : List Status) (id : ℕ) → IsIndexed rows index statuses → new ≡ remove rows (place_in rows id) → other ≡ remove index (place_in index id) → left ≡ remove statuses (place_in rows id)
    → IsIndexed new other left
fewer_indexed rows new index other statuses left id w cut out gone =
    let fewer = remove_fewer rows (place_in rows id) in
    let long = ap length cut in
    let few = w.few in
    record {
      indexed = ap (λ (l : List Entry). footprints data_plan l) cut
          ∙ footprints-remove data_plan rows (place_in rows id)
          ∙ ap (λ o. remove (footprints data_plan rows) (unwrap_or o 0)) (sym (place_of-footprints data_plan rows id))
          ∙ ap (λ (l : List (ℕ × Footprint)). remove l (place_in l id)) w.indexed
          ∙ sym out;
      few = omega (arith, fewer, long, few);
      standing = ap statuses_of cut
          ∙ map-remove status_in rows (place_in rows id)
          ∙ ap (λ (l : List Status). remove l (place_in rows id)) w.standing
          ∙ sym gone;
    }

-- a row put in
pub standing_put : (rows new : List Entry) (statuses : List Status) (place : ℕ) (e : Entry) → statuses_of rows ≡ statuses → new ≡ insert rows place e → statuses_of new ≡ insert statuses place e.1.status
standing_put rows new statuses place e w put =
    ap statuses_of put ∙ map-insert status_in rows place e ∙ ap (λ (l : List Status). insert l place e.1.status) w

-- a row replaced
pub standing_replaced : (rows new : List Entry) (statuses : List Status) (place : ℕ) (y : RowData) → statuses_of rows ≡ statuses → new ≡ with_row rows place y → statuses_of new ≡ set statuses place y.status
standing_replaced rows new statuses place y w put =
    ap statuses_of put ∙ map-set status_in rows place (id_at rows place, y) ∙ ap (λ (l : List Status). set l place y.status) w
