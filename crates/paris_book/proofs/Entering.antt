-- The rows of a program: what stands at a place, origins by ids, and places of ids.
use Rattle.std.proofs.Common.{◌≡◌, ℕ, ◌+◌, List, [], ◌∷◌, Bool, true, false, cond, Option, Some, None, nat_eq, eqb, refl, sym, ap, ◌∙◌, map, suc, arith, set, slice_get}
use Rattle.std.proofs.lemmas.Bool.Decides.{nat_tests}
use Rattle.std.specs.Option.{option_map, unwrap_or}
use Rattle.std.specs.List.{find, enumerate_from, IsDistinct}
use Rattle.std.specs.Map.{keys_of}
use Rattle.paris_names.specs.declared.keys.Key.{Key}
use Rattle.paris_program.specs.Program.{place_of, id_at, with_row, row_of}
use Rattle.paris_program.proofs.CallerLemmas.{place_of-first}
use Rattle.paris_depends.proofs.OriginLemmas.{origin-found}
use Rattle.paris_events.specs.State.{Row, find_id}
use Rattle.paris_book.specs.Entries.{Entry, with_data, machine_row}
use Rattle.paris_book.proofs.Among.{origin_among}
use Rattle.paris_book.specs.Marks.{data_plan}
use Rattle.paris_book.specs.Rows.{RowData}
use Rattle.paris_events.proofs.Finds.{none_of}

-- what was found at a place twice is the same
pub entry_same : (rows : List Entry) (i : ℕ) (r e : Entry) → slice_get rows i ≡ Some r → slice_get rows i ≡ Some e → r ≡ e
entry_same rows i r e at is = ap (λ o. unwrap_or o e) (sym at ∙ is)

-- the rows with the data at a place changed
pub data_changed : (change : RowData → RowData) (rows : List Entry) (place : ℕ) (x y : RowData) (e : Entry) → slice_get rows place ≡ Some (id_at rows place, x) → slice_get rows place ≡ Some e → y ≡ change x
    → with_row rows place y ≡ set rows place (with_data change e)
data_changed change rows place x y e at is changed =
    ap (λ z. set rows place (id_at rows place, z)) changed
    ∙ ap (λ (u : Entry). set rows place (with_data change u)) (entry_same rows place (id_at rows place, x) e at is)

pub origin_none : (rows : List Entry) (place : ℕ) (k : Key) → None ≡ option_map (λ r. r.0) (origin_among rows place k) → origin_among rows place k ≡ None
origin_none rows place k none = none_of (λ (r : Entry). r.0) (origin_among rows place k) none

-- the row that is found by the id of an origin
pub origin_found : (rows : List Entry) (place : ℕ) (k : Key) (i : ℕ) → IsDistinct nat_eq (keys_of rows) → Some i ≡ option_map (λ r. r.0) (origin_among rows place k)
    → (x : RowData) × (row_of rows i ≡ Some x) × (origin_among rows place k ≡ Some (i, x))
origin_found rows place k i distinct is = by_origin (origin_among rows place k) refl is
  where
    by_origin : (o : Option Entry) → origin_among rows place k ≡ o → Some i ≡ option_map (λ r. r.0) o → (x : RowData) × (row_of rows i ≡ Some x) × (origin_among rows place k ≡ Some (i, x))
    by_origin None e h = absurd (cc)
    by_origin (Some r) e h =
        let same : i ≡ r.0 = cc in
        (r.1, ap (row_of rows) same ∙ origin-found data_plan k rows place r distinct e, e ∙ ap (λ j. Some (j, r.1)) (sym same))

-- the same of the data that is found by the id
pub origin_row : (rows : List Entry) (place : ℕ) (k : Key) (i : ℕ) (x : RowData) → IsDistinct nat_eq (keys_of rows) → Some i ≡ option_map (λ r. r.0) (origin_among rows place k) → Some x ≡ row_of rows i
    → origin_among rows place k ≡ Some (i, x)
origin_row rows place k i x distinct is here =
    let found = origin_found rows place k i distinct is in
    let same : found.0 ≡ x = ap (λ o. unwrap_or o x) (sym (here ∙ found.1)) in
    found.2 ∙ ap (λ y. Some (i, y)) same

-- an origin's id has a row
pub origin_there : (rows : List Entry) (place : ℕ) (k : Key) (i : ℕ) → IsDistinct nat_eq (keys_of rows) → Some i ≡ option_map (λ r. r.0) (origin_among rows place k) → None ≡ row_of rows i → ⊥
origin_there rows place k i distinct is none =
    let found = origin_found rows place k i distinct is in
    let nothing : Option RowData = None in
    let wrong : nothing ≡ Some found.0 = none ∙ found.1 in
    absurd (cc)

same_test : (i j : ℕ) → eqb j i ≡ nat_eq i j
same_test i j = grind (arith, nat_tests)

-- the place of an id among the rows
find_from : (i n : ℕ) (rows : List Entry) → option_map (λ e. e.0) (find (λ (e : ℕ × Row). eqb e.1.id.0 i) (enumerate_from n (map machine_row rows))) ≡ option_map (λ k. n + k) (place_of rows i)
find_from i n [] = refl
find_from i n (r ∷ rows) = rw (place_of-first r rows i, ← same_test i r.0) (by_test (eqb r.0 i) (place_of rows i) (find_from i (n + 1) rows))
  where
    by_test : (b : Bool) (o : Option ℕ) → option_map (λ e. e.0) (find (λ (e : ℕ × Row). eqb e.1.id.0 i) (enumerate_from (n + 1) (map machine_row rows))) ≡ option_map (λ k. n + 1 + k) o
        → option_map (λ e. e.0) (cond b (Some (n, machine_row r)) (find (λ (e : ℕ × Row). eqb e.1.id.0 i) (enumerate_from (n + 1) (map machine_row rows)))) ≡ option_map (λ k. n + k) (cond b (Some 0) (option_map suc o))
    by_test true o h = let here : n ≡ n + 0 = omega arith in ap Some here
    by_test false None h = h
    by_test false (Some k) h = h ∙ (let up : n + 1 + k ≡ n + suc k = omega arith in ap Some up)

pub find_is : (i : ℕ) (rows : List Entry) → option_map (λ e. e.0) (find_id i (map machine_row rows)) ≡ place_of rows i
find_is i rows = find_from i 0 rows ∙ by_place (place_of rows i)
  where
    by_place : (o : Option ℕ) → option_map (λ k. 0 + k) o ≡ o
    by_place None = refl
    by_place (Some k) = let same : 0 + k ≡ k = omega arith in ap Some same
