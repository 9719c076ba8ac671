-- Rows and their index, as a row is put in.
use Rattle.std.proofs.Common.{◌≡◌, ℕ, ◌≤◌, List, length, Option, Some, None, Result, Ok, Err, refl, sym, ap, ◌∙◌, subst}
use Rattle.std.specs.Option.{IsSome}
use Rattle.std.specs.Result.{IfOk, IsOk, OnOk, result_ok}
use Rattle.std.specs.Prelude.{insert, remove, unwrap_or}
use Rattle.paris_model.specs.Instructions.{Plan}
use Rattle.paris_names.specs.declared.ids.RowId.{RowId}
use Rattle.paris_program.specs.Program.{AreIds, Inserts, Program, ids_of, place_in, place_of}
use Rattle.paris_program.proofs.CallerLemmas.{row_there}
use Rattle.paris_depends.specs.Index.{Footprint, footprint, footprints, keys_written}
use Rattle.paris_depends.proofs.CallerLemmas.{footprints-insert, footprints-remove, ids-footprints, next_new, others-insert, place-insert, place_at, same_place}

-- what holds of the value in an `Ok` holds of what is taken from it
pub held : {A E : Type 0} (r : Result A E) (o : Option A) (x : A) (P : A → Type 0) → o ≡ result_ok r → o ≡ Some x → IfOk r P → P x
held (Ok y) o x P e f h = let same : y ≡ x = cc in subst P same h
held (Err y) o x P e f h = absurd (cc)

pub held_on : {A E : Type 0} (r : Result A E) (o : Option A) (x : A) (P : Type 0) → o ≡ result_ok r → o ≡ Some x → OnOk r P → P
held_on (Ok y) o x P e f h = h
held_on (Err y) o x P e f h = absurd (cc)

-- where it is `Ok`, what is said of an `Ok` holds
pub on_ok : {A E : Type 0} (r : Result A E) (P : Type 0) → IsOk r → OnOk r P → P
on_ok (Ok y) P is h = h
on_ok (Err y) P is h = absurd (cc)

-- rows of data with a plan each
module _ {T : Type 0} (plan : T → Plan) where
  -- a row that is put in has its place, and its entry in the index
  module _ (old new : Program T) (place : ℕ) (row : T) (id : RowId) (rows : List (ℕ × Footprint)) (inserts : Inserts old new place row id) (within : place ≤ length old.rows) (sound : AreIds old.next_id (ids_of old.rows)) (indexed : footprints plan old.rows ≡ rows) where
    pub more_rows : new.rows ≡ insert old.rows place (id.0, row)
    more_rows = inserts.1 ∙ ap (λ (i : RowId). insert old.rows place (i.0, row)) (sym inserts.0)

    pub new_id : place_of old.rows id.0 ≡ None
    new_id = ap (λ (i : RowId). place_of old.rows i.0) inserts.0 ∙ next_new old.rows old.next_id sound

    pub placed : place_of new.rows id.0 ≡ Some place
    placed = ap (λ (l : List (ℕ × T)). place_of l id.0) more_rows ∙ place-insert old.rows place id.0 row within new_id

    pub others : remove (ids_of new.rows) (place_in new.rows id.0) ≡ ids_of rows
    others =
        ap (λ (l : List (ℕ × T)). remove (ids_of l) (place_in l id.0)) more_rows
        ∙ others-insert old.rows place id.0 row within new_id
        ∙ sym (ids-footprints plan old.rows)
        ∙ ap (λ (l : List (ℕ × Footprint)). ids_of l) indexed

    pub indexed_more : (more : List (ℕ × Footprint)) → more ≡ insert rows (place_in new.rows id.0) (id.0, footprint (plan row)) → footprints plan new.rows ≡ more
    indexed_more more e =
        ap (footprints plan) more_rows
        ∙ footprints-insert plan old.rows place id.0 row
        ∙ ap (λ (l : List (ℕ × Footprint)). insert l place (id.0, footprint (plan row))) indexed
        ∙ ap (λ n. insert rows n (id.0, footprint (plan row))) (sym (place_at new.rows id.0 place placed))
        ∙ sym e

  -- rows that are in an index have the same ids and places there
  module _ (old : List (ℕ × T)) (rows : List (ℕ × Footprint)) (indexed : footprints plan old ≡ rows) where
    pub known_place : (id : ℕ) → place_of old id ≡ place_of rows id
    known_place id = same_place old rows id (sym (ids-footprints plan old) ∙ ap (λ (l : List (ℕ × Footprint)). ids_of l) indexed)

    pub known_keys : (id : ℕ) → IsSome (place_of old id) → IsSome (keys_written rows id)
    known_keys id there = by_place (place_of rows id) refl (subst (λ (o : Option ℕ). IsSome o) (known_place id) there)
      where
        by_place : (o : Option ℕ) → place_of rows id ≡ o → IsSome o → IsSome (keys_written rows id)
        by_place None e some = absurd (cc)
        by_place (Some place) e some = let there = row_there rows id place e in let found = there.2 in rw found refl

    pub indexed_fewer : (fewer : List (ℕ × T)) (left : List (ℕ × Footprint)) (id : ℕ) → fewer ≡ remove old (place_in old id) → left ≡ remove rows (place_in rows id) → footprints plan fewer ≡ left
    indexed_fewer fewer left id e f =
        ap (footprints plan) e
        ∙ footprints-remove plan old (place_in old id)
        ∙ ap (λ (l : List (ℕ × Footprint)). remove l (place_in old id)) indexed
        ∙ ap (λ (o : Option ℕ). remove rows (unwrap_or o 0)) (known_place id)
        ∙ sym f
