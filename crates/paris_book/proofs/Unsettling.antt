-- The rows after an edit, and a sweep over them.
use Rattle.std.proofs.Common.{◌≡◌, ℕ, ◌+◌, List, [], ◌∷◌, ◌++◌, Bool, true, false, cond, Option, Some, None, nat_eq, refl, sym, ap, ◌∙◌, subst, set, take, drop, insert, remove, zero, suc, add-one, append_assoc, length, ◌<◌, get_or, slice_get}
use Rattle.std.proofs.lemmas.List.{map-append, map-id, take_more}
use Rattle.std.proofs.lemmas.Option.{slice_get-map}
use Rattle.std.specs.Option.{option_map, unwrap_or}
use Rattle.std.proofs.Math.Path.{fun_ext}
use Rattle.std.specs.Prelude.{position, Result, Ok, Err, IfOk}
use Rattle.std.specs.List.{list_any, IsDistinct}
use Rattle.std.specs.Map.{keys_of}
use Rattle.paris_names.specs.declared.keys.Key.{Key}
use Rattle.paris_names.specs.declared.ids.RowId.{RowId}
use Rattle.paris_names.specs.Keys.{has_key}
use Rattle.paris_model.specs.Instructions.{Plan, writes}
use Rattle.paris_program.specs.Program.{place_of, with_row}
use Rattle.paris_program.proofs.CallerLemmas.{row_there}
use Rattle.paris_depends.specs.Sweeps.{touched}
use Rattle.paris_depends.proofs.ByIds.{by_ids-front, by_ids-swept, by_ids-more, by_ids-absent}
use Rattle.paris_book.specs.Entries.{Entry, with_data, ChangedAt}
use Rattle.paris_book.proofs.Swept.{swept_entries}
use Rattle.paris_book.specs.Marks.{data_plan, fresh_data, unsettled_by_ids, ids_in, writes_either, stale_data, replaced_data}
use Rattle.paris_book.specs.Rows.{RowData}
use Rattle.paris_book.proofs.Inserts.{inserted_rows}

-- ---- no id, and one more

pub unsettled_none : (n : ℕ) (rows : List Entry) → rows ≡ unsettled_by_ids n [] rows
unsettled_none n rows = sym (map-id rows)

ids_stay : (n : ℕ) (ids : List ℕ) (rows : List Entry) → keys_of (unsettled_by_ids n ids rows) ≡ keys_of rows
ids_stay n ids [] = refl
ids_stay n ids (r ∷ rows) = rw (ids_stay n ids rows) (by_test (list_any (nat_eq r.0) ids))
  where
    by_test : (b : Bool) → ((cond b (with_data (stale_data n) r) r).0 ∷ keys_of rows) ≡ (r.0 ∷ keys_of rows)
    by_test true = refl
    by_test false = refl

stale_once : (n : ℕ) (b : Bool) (r : Entry) → with_data (stale_data n) (cond b (with_data (stale_data n) r) r) ≡ with_data (stale_data n) r
stale_once n true r = refl
stale_once n false r = refl

pub ids_more : (ids : List RowId) (i : ℕ) (d : RowId) → i < length ids → ids_in (take (i + 1) ids) ≡ ids_in (take i ids) ++ (get_or ids i d).0 ∷ []
ids_more ids i d within = ap ids_in (take_more ids i d within) ∙ map-append (λ (id : RowId). id.0) (take i ids) (get_or ids i d ∷ [])

pub unsettle_more : (n : ℕ) (old now new : List Entry) (ids : List ℕ) (i place : ℕ) → IsDistinct nat_eq (keys_of old) → now ≡ unsettled_by_ids n ids old → place_of now i ≡ Some place → ChangedAt (stale_data n) now place new
    → new ≡ unsettled_by_ids n (ids ++ i ∷ []) old
unsettle_more n old now new ids i place distinct is at changed =
    let there : place_of old i ≡ Some place = sym (ap (λ ks. place_in ks i) (ap keys_of is ∙ ids_stay n ids old)) ∙ at in
    let row = row_there old i place there in
    let marked : Bool = list_any (nat_eq i) ids in
    let was : Entry = cond marked (with_data (stale_data n) (i, row.0)) (i, row.0) in
    let found : slice_get now place ≡ Some was =
    ap (λ rows. slice_get rows place) is ∙ slice_get-map (λ r. cond (list_any (nat_eq r.0) ids) (with_data (stale_data n) r) r) old place ∙ ap (option_map (λ r. cond (list_any (nat_eq r.0) ids) (with_data (stale_data n) r) r)) row.1 in
    changed was found
    ∙ ap (λ (e : Entry). set now place e) (stale_once n marked (i, row.0))
    ∙ ap (λ rows. set rows place (i, stale_data n row.0)) is
    ∙ sym (by_ids-more (with_data (stale_data n)) (λ r. r) i row.0 ids old place distinct there row.1)
  where
    place_in : List ℕ → ℕ → Option ℕ
    place_in ks i = position (nat_eq i) ks

pub unsettle_none : (n : ℕ) (old now : List Entry) (ids : List ℕ) (i : ℕ) → now ≡ unsettled_by_ids n ids old → None ≡ place_of now i → now ≡ unsettled_by_ids n (ids ++ i ∷ []) old
unsettle_none n old now ids i is none =
    let absent : place_of old i ≡ None = sym (none ∙ ap (λ ks. position (nat_eq i) ks) (ap keys_of is ∙ ids_stay n ids old)) in
    is ∙ sym (by_ids-absent (with_data (stale_data n)) (λ r. r) i ids old absent)

-- ---- all ids of a sweep

-- rows of which those behind a place are swept
pub unsettled_behind : (n : ℕ) (d : Key → Bool) (front back : List Entry) → IsDistinct nat_eq (keys_of (front ++ back))
    → unsettled_by_ids n (touched data_plan d back) (front ++ back) ≡ front ++ swept_entries n d back
unsettled_behind n d front back distinct =
    by_ids-front data_plan (with_data (stale_data n)) (λ r. r) d front back distinct
    ∙ ap (λ rows. rows ++ swept_entries n d back) (map-id front)

-- all rows, after input data is given
pub input_rows : (n : ℕ) (k : Key) (old new : List Entry) (ids : List ℕ) → IsDistinct nat_eq (keys_of old) → ids ≡ touched data_plan (has_key (k ∷ [])) old → new ≡ unsettled_by_ids n ids old
    → new ≡ swept_entries n (has_key (k ∷ [])) old
input_rows n k old new ids distinct which is =
    is ∙ ap (λ js. unsettled_by_ids n js old) which ∙ by_ids-swept data_plan (with_data (stale_data n)) (λ r. r) (has_key (k ∷ [])) old distinct

-- the rows after an insert
pub insert_rows : (n m place : ℕ) (x : Plan) (old more new : List Entry) (ids : List ℕ) → more ≡ insert old place (m, fresh_data x (n + 1)) → IsDistinct nat_eq (keys_of more) → ids ≡ touched data_plan (has_key (writes x)) (drop place old)
    → new ≡ unsettled_by_ids (n + 1) ids more → new ≡ inserted_rows n m old place x
insert_rows n m place x old more new ids put distinct which is =
    let row : Entry = (m, fresh_data x (n + 1)) in
    let front : List Entry = take place old ++ row ∷ [] in
    let back : List Entry = drop place old in
    let d : Key → Bool = has_key (writes x) in
    let whole : more ≡ front ++ back = put ∙ sym (append_assoc (take place old) (row ∷ []) back) in
    is
    ∙ ap (λ js. unsettled_by_ids (n + 1) js more) which
    ∙ ap (unsettled_by_ids (n + 1) (touched data_plan d back)) whole
    ∙ unsettled_behind (n + 1) d front back (subst (λ rows. IsDistinct nat_eq (keys_of rows)) whole distinct)
    ∙ append_assoc (take place old) (row ∷ []) (swept_entries (n + 1) d back)

-- the rows after a delete
pub delete_rows : (n place : ℕ) (d : Key → Bool) (old fewer new : List Entry) (ids : List ℕ) → fewer ≡ remove old place → IsDistinct nat_eq (keys_of fewer) → ids ≡ touched data_plan d (drop (place + 1) old)
    → new ≡ unsettled_by_ids n ids fewer → new ≡ take place old ++ swept_entries n d (drop (place + 1) old)
delete_rows n place d old fewer new ids cut distinct which is =
    let front : List Entry = take place old in
    let back : List Entry = drop (place + 1) old in
    let whole : fewer ≡ front ++ back = cut ∙ ap (λ k. take place old ++ drop k old) (sym (add-one place)) in
    is
    ∙ ap (λ js. unsettled_by_ids n js fewer) which
    ∙ ap (unsettled_by_ids n (touched data_plan d back)) whole
    ∙ unsettled_behind n d front back (subst (λ rows. IsDistinct nat_eq (keys_of rows)) whole distinct)

row_put : (rows : List Entry) (place i : ℕ) (x y : RowData) → slice_get rows place ≡ Some (i, x) → with_row rows place y ≡ take place rows ++ (i, y) ∷ drop (suc place) rows
row_put [] place i x y at = absurd (cc)
row_put (r ∷ rows) zero i x y at = let same : r ≡ (i, x) = cc in ap (λ (e : Entry). (e.0, y) ∷ rows) same
row_put (r ∷ rows) (suc place) i x y at = ap (λ rs. r ∷ rs) (row_put rows place i x y at)

-- the rows after a replace
pub replace_rows : (n place i : ℕ) (d : Key → Bool) (x : Plan) (row : RowData) (old other new : List Entry) (ids : List ℕ) → slice_get old place ≡ Some (i, row) → other ≡ with_row old place (replaced_data x (n + 1) row) → IsDistinct nat_eq (keys_of other)
    → ids ≡ touched data_plan d (drop (place + 1) old) → new ≡ unsettled_by_ids (n + 1) ids other → new ≡ take place old ++ (i, replaced_data x (n + 1) row) ∷ swept_entries (n + 1) d (drop (place + 1) old)
replace_rows n place i d x row old other new ids at put distinct which is =
    let new_row : Entry = (i, replaced_data x (n + 1) row) in
    let front : List Entry = take place old ++ new_row ∷ [] in
    let back : List Entry = drop (place + 1) old in
    let whole : other ≡ front ++ back =
    put ∙ row_put old place i row (replaced_data x (n + 1) row) at ∙ ap (λ k. take place old ++ new_row ∷ drop k old) (sym (add-one place)) ∙ sym (append_assoc (take place old) (new_row ∷ []) back) in
    is
    ∙ ap (λ js. unsettled_by_ids (n + 1) js other) which
    ∙ ap (unsettled_by_ids (n + 1) (touched data_plan d back)) whole
    ∙ unsettled_behind (n + 1) d front back (subst (λ rows. IsDistinct nat_eq (keys_of rows)) whole distinct)
    ∙ append_assoc (take place old) (new_row ∷ []) (swept_entries (n + 1) d back)

-- what holds of a value, of what follows from it
pub if_ok_more : {A E : Type 0} (P Q : A → Type 0) (r : Result A E) → ((a : A) → P a → Q a) → IfOk r P → IfOk r Q
if_ok_more P Q (Ok a) more p = more a p
if_ok_more P Q (Err e) more p = p

-- the keys that a row's plan or another one writes
pub either_is : (keys items : List Key) (x : RowData) (o : Option RowData) (p : Plan) (row : RowData) → keys ≡ items → ((k : Key) → has_key items k ≡ writes_either x.plan p k) → Some x ≡ o → o ≡ Some row → has_key keys ≡ writes_either row.plan p
either_is keys items x o p row same all here there =
    let one : x ≡ row = ap (λ u. unwrap_or u x) (here ∙ there) in
    ap has_key same ∙ fun_ext all ∙ ap (λ (r : RowData). writes_either r.plan p) one
