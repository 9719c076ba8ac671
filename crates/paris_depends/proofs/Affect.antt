-- Where a sweep by reaches begins, what it takes, and what it lists.
use Rattle.std.proofs.Common.{◌≡◌, ℕ, zero, suc, ◌+◌, ◌*◌, ◌<◌, ◌≤◌, List, [], ◌∷◌, ◌++◌, length, map, drop, Bool, true, false, cond, Some, refl, sym, ap, ◌∙◌, arith, slice_get, nat_eq, subst}
use Rattle.std.proofs.Math.Path.{fun_ext}
use Rattle.std.proofs.Math.Nat.{mul-le-mul}
use Rattle.std.proofs.lemmas.List.{drop_all, append-nil, append_assoc, map-append}
use Rattle.std.specs.List.{AllByRecursion, IsDistinct, filter, position, list_any}
use Rattle.std.specs.Map.{keys_of}
use Rattle.std.specs.Option.{option_map}
use Rattle.paris_names.specs.declared.keys.Key.{Key}
use Rattle.paris_names.specs.declared.ids.RowId.{RowId}
use Rattle.paris_names.specs.Keys.{has_key}
use Rattle.paris_model.specs.Instructions.{Plan, reads, writes}
use Rattle.paris_program.specs.Program.{place_of}
use Rattle.paris_program.proofs.CallerLemmas.{row_there}
use Rattle.paris_depends.specs.Sweeps.{spread, touched}
use Rattle.paris_depends.specs.Index.{Footprint, footprints, keys_written}
use Rattle.paris_depends.specs.Reaches.{never, goes_on, reach_at, moved_past, first_hit, open_at, touched_rows, IsReach}
use Rattle.paris_depends.specs.declared.reaches.Reach.{Reach}
use Rattle.paris_depends.proofs.Places.{found_at}
use Rattle.paris_depends.proofs.Reaching.{all_map, reach-new}
use Rattle.paris_depends.proofs.ReachSweep.{open-new, to-first_hit, past-touched, known-past}

-- products of greater numbers are greater
mul_up : (a b c d : ℕ) → a ≤ b → c ≤ d → a * c ≤ b * d
mul_up a b c d h k = mul-le-mul h k

-- one more row: each reach that goes on may look once, and each key that the row writes looks as often as a new reach
pub looks-more : (start now past more reaches kept new rows keys each : ℕ) → now ≤ start + (keys + 3 * rows) * (rows + each) → reaches ≤ keys + 3 * rows → kept ≤ reaches → past ≤ now + kept → new ≤ 3 → more ≤ past + new * each
    → more ≤ start + (keys + 3 * (rows + 1)) * (rows + 1 + each)
looks-more start now past more reaches kept new rows keys each a b c d e f =
    let up = mul_up new 3 each each e (omega arith) in
    omega (arith, a, b, c, d, f, up)

-- so many looks fit
pub looks-fit : (start now reaches rows keys all : ℕ) → now ≤ start + (keys + 3 * rows) * (rows + 129) → reaches ≤ keys + 3 * rows → rows < all → start + (keys + 3 * all) * (all + 129) ≤ 9223372036854775808 → now + reaches + 387 ≤ 9223372036854775808
looks-fit start now reaches rows keys all a b c d =
    let up = mul_up (keys + 3 * rows + 3) (keys + 3 * all) (rows + 130) (all + 129) (omega arith) (omega arith) in
    omega (arith, up, a, b, d)

pub looks-all : (start now rows keys : ℕ) → now ≤ start + (keys + 3 * rows) * (rows + 27) → now ≤ start + (keys + 3 * rows) * (rows + 32)
looks-all start now rows keys a =
    let up = mul_up (keys + 3 * rows) (keys + 3 * rows) (rows + 27) (rows + 32) (omega arith) (omega arith) in
    omega (arith, up, a)

-- at the start the reaches open the keys that are changed there, and lead to the first hit
pub from_start : (rows : List (ℕ × Footprint)) (place : ℕ) (keys : List Key) (reaches : List Reach) → place ≤ length rows → length rows ≤ never → reaches ≡ map (λ k. reach_at rows k place) keys
    → (place ≤ first_hit reaches) × (touched_rows (has_key keys) (drop place rows) ≡ touched_rows (open_at reaches (first_hit reaches)) (drop (first_hit reaches) rows)) × AllByRecursion (IsReach rows (first_hit reaches)) reaches
from_start rows place keys reaches within short made =
    let P : List Reach → Type 0 = AllByRecursion (IsReach rows place) in
    let known = subst P (sym made) (all_map (IsReach rows place) (λ k. reach_at rows k place) (λ k. reach-new rows k place within short) keys) in
    let opens : open_at reaches place ≡ has_key keys = fun_ext (λ k. ap (λ l. open_at l place k) made ∙ open-new rows place within keys k) in
    let on = to-first_hit rows place reaches (omega arith) known in
    (on.0, ap (λ (d : Key → Bool). touched_rows d (drop place rows)) (sym opens) ∙ on.1, on.2)

-- a row of a program stands at the same place in the index
pub row_known : {S : Type 0} (others : List (ℕ × S)) (rows : List (ℕ × Footprint)) (j id : ℕ) (other : S) → keys_of others ≡ keys_of rows → IsDistinct nat_eq (keys_of others) → slice_get others j ≡ Some (id, other)
    → (f : Footprint) × (slice_get rows j ≡ Some (id, f)) × (keys_written rows id ≡ Some f.written)
row_known others rows j id other same distinct at =
    let place : place_of rows id ≡ Some j = sym (ap (λ ids. position (nat_eq id) ids) same) ∙ found_at others j (id, other) distinct at in
    let there = row_there rows id j place in
    (there.0, there.1, ap (option_map (λ (f : Footprint). f.written)) there.2)

-- past the end nothing more is listed
pub listed-end : (d : Key → Bool) (rows : List (ℕ × Footprint)) (at : ℕ) (ids whole : List ℕ) → length rows ≤ at → ids ++ touched_rows d (drop at rows) ≡ whole → ids ≡ whole
listed-end d rows at ids whole past e = sym (append-nil ids) ∙ ap (λ l. ids ++ touched_rows d l) (sym (drop_all at rows past)) ∙ e

module _ {T : Type 0} (plan : T → Plan) where
  -- what the plans of rows read and write is all that a sweep goes by
  touched-footprints : (d : Key → Bool) (rows : List (ℕ × T)) → touched plan d rows ≡ touched_rows d (footprints plan rows)
  unfolding spread
  touched-footprints d [] = refl
  touched-footprints d (r ∷ rows) = ap (λ l. cond (list_any d (reads (plan r.1))) (r.0 ∷ l) l) (touched-footprints (λ k. cond (has_key (writes (plan r.1)) k) (list_any d (reads (plan r.1))) (d k)) rows)

  drop_footprints : (place : ℕ) (rows : List (ℕ × T)) → drop place (footprints plan rows) ≡ footprints plan (drop place rows)
  drop_footprints zero rows = refl
  drop_footprints (suc place) [] = refl
  drop_footprints (suc place) (r ∷ rows) = drop_footprints place rows

  pub listed-touched : (d : Key → Bool) (place : ℕ) (rows : List (ℕ × T)) (known : List (ℕ × Footprint)) → footprints plan rows ≡ known → touched_rows d (drop place known) ≡ touched plan d (drop place rows)
  listed-touched d place rows known same =
      ap (λ l. touched_rows d (drop place l)) (sym same)
      ∙ ap (touched_rows d) (drop_footprints place rows)
      ∙ sym (touched-footprints d (drop place rows))

-- past the row that is hit, to the next hit
pub from_hit : (rows : List (ℕ × Footprint)) (i id : ℕ) (f : Footprint) (reaches new : List Reach) → slice_get rows i ≡ Some (id, f) → first_hit reaches ≡ i → i < length rows → length rows ≤ never → AllByRecursion (IsReach rows i) reaches
    → new ≡ map (moved_past rows i) (filter (goes_on i) reaches) ++ map (λ j. reach_at rows j (i + 1)) f.written
    → (i + 1 ≤ first_hit new) × (touched_rows (open_at reaches i) (drop i rows) ≡ id ∷ touched_rows (open_at new (first_hit new)) (drop (first_hit new) rows)) × AllByRecursion (IsReach rows (first_hit new)) new
from_hit rows i id f reaches new at here within short known made =
    let after = known-past rows i (id, f) at reaches new known short made in
    let on = to-first_hit rows (i + 1) new (omega arith) after in
    (on.0, past-touched rows i (id, f) at reaches new known here (omega arith) made ∙ ap (λ l. id ∷ l) on.1, on.2)

pub listed-step : (ids more : List RowId) (id : RowId) (now rest whole : List ℕ) → more ≡ ids ++ id ∷ [] → map (λ (r : RowId). r.0) ids ++ now ≡ whole → now ≡ id.0 ∷ rest → map (λ (r : RowId). r.0) more ++ rest ≡ whole
listed-step ids more id now rest whole longer e next =
    ap (λ l. map (λ (r : RowId). r.0) l ++ rest) longer
    ∙ ap (λ l. l ++ rest) (map-append (λ (r : RowId). r.0) ids (id ∷ []))
    ∙ append_assoc (map (λ (r : RowId). r.0) ids) (id.0 ∷ []) rest
    ∙ ap (λ l. map (λ (r : RowId). r.0) ids ++ l) (sym next)
    ∙ e

pub length-made : {A B C : Type 0} (f : A → B) (g : C → B) (xs : List A) (ys : List C) → length (map f xs ++ map g ys) ≡ length xs + length ys
length-made f g [] [] = refl
length-made f g [] (y ∷ ys) = ap suc (length-made f g [] ys) ∙ (let e : suc (0 + length ys) ≡ 0 + suc (length ys) = omega arith in e)
length-made f g (x ∷ xs) ys = ap suc (length-made f g xs ys) ∙ (let e : suc (length xs + length ys) ≡ suc (length xs) + length ys = omega arith in e)

pub length-mapped : {A B : Type 0} (f : A → B) (xs : List A) → length (map f xs) ≡ length xs
length-mapped f [] = refl
length-mapped f (x ∷ xs) = ap suc (length-mapped f xs)

pub length-push : {A : Type 0} (xs : List A) (x : A) → length (xs ++ x ∷ []) ≡ length xs + 1
length-push [] x = refl
length-push (y ∷ xs) x = ap suc (length-push xs x) ∙ (let e : suc (length xs + 1) ≡ suc (length xs) + 1 = omega arith in e)

pub looks-same : (start now keys rows rows' each : ℕ) → now ≤ start + (keys + 3 * rows) * (rows + each) → rows' ≡ rows → now ≤ start + (keys + 3 * rows') * (rows' + each)
looks-same start now keys rows rows' each h e = rw e h

pub looks-start : (start now keys rows each : ℕ) → now ≤ start + keys * each → rows ≡ 0 → now ≤ start + (keys + 3 * rows) * (rows + each)
looks-start start now keys rows each h e = rw e (omega (arith, h))

pub length-kept : {A : Type 0} (test : A → Bool) (xs : List A) → length (filter test xs) ≤ length xs
length-kept test [] = omega arith
length-kept test (x ∷ xs) = by_test (test x) (length-kept test xs)
  where
    by_test : (b : Bool) → length (filter test xs) ≤ length xs → length (cond b (x ∷ filter test xs) (filter test xs)) ≤ suc (length xs)
    by_test true h = omega arith
    by_test false h = omega arith
