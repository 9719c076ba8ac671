-- An edit touches at least the rows that its walk over the index finds, so what is read is bounded by these.
use Rattle.std.proofs.Common.{◌≡◌, ℕ, ◌+◌, ◌*◌, ◌≤◌, List, [], ◌∷◌, ◌++◌, Bool, true, false, cond, refl, sym, ap, ◌∙◌, arith, subst, map, length, suc, nat_lt}
use Rattle.std.proofs.Math.Nat.{mul-le-mul}
use Rattle.std.proofs.lemmas.Bool.{lt-ltb}
use Rattle.std.proofs.lemmas.List.{map-append, length-map}
use Rattle.std.specs.List.{filter}
use Rattle.paris_names.specs.declared.ids.Edition.{Edition}
use Rattle.paris_names.specs.declared.ids.RowId.{RowId}
use Rattle.paris_names.specs.declared.keys.Key.{Key}
use Rattle.paris_depends.specs.Sweeps.{touched, touches, spread}
use Rattle.paris_events.specs.State.{Row, State, start_world}
use Rattle.paris_events.specs.CutOff.{cut_off}
use Rattle.paris_events.proofs.Passes.{cut, from_start}
use Rattle.paris_events.proofs.Passing.{cut_off_is}
use Rattle.paris_events.proofs.AtRests.{editions_stay}
use Rattle.paris_book.specs.Entries.{Entry, machine_row, with_data}
use Rattle.paris_book.specs.Marks.{data_plan, ids_in, stale_data}
use Rattle.paris_book.specs.MostRead.{most_read}
use Rattle.paris_book.specs.TouchedIds.{is_touched, touched_ids}
use Rattle.paris_book.proofs.Swept.{swept_entries}

-- ---- the bound

-- it rises with the rows
pub reads_rise : (from to few many : ℕ) → to ≤ from + most_read few → few ≤ many → to ≤ from + most_read many
reads_rise from to few many read less =
    let more : (128 + 3 * few) * (few + 32) ≤ (128 + 3 * many) * (many + 32) = mul-le-mul (let a : 128 + 3 * few ≤ 128 + 3 * many = omega (arith, less) in a) (let b : few + 32 ≤ many + 32 = omega (arith, less) in b) in
    omega (arith, read, more)

-- what a walk from so many keys reads is within it
pub reads_few : (from to keys rows : ℕ) → keys ≤ 128 → to ≤ from + (keys + 3 * rows) * (rows + 32) → to ≤ from + most_read rows
reads_few from to keys rows few read =
    let more : (keys + 3 * rows) * (rows + 32) ≤ (128 + 3 * rows) * (rows + 32) = mul-le-mul (let a : keys + 3 * rows ≤ 128 + 3 * rows = omega (arith, few) in a) (let b : rows + 32 ≤ rows + 32 = omega arith in b) in
    omega (arith, read, more)

-- ---- how many rows are touched

-- so many editions are later
abbrev later : ℕ → List Edition → ℕ
later since [] = 0
later since (e ∷ es) = cond (nat_lt since e.0) (suc (later since es)) (later since es)

touched_later : (since : ℕ) (rs : List Row) → length (touched_ids since rs) ≡ later since (map (λ (r : Row). r.edition) rs)
touched_later since [] = refl
touched_later since (r ∷ rs) = by_test (is_touched since r) ∙ ap (λ n. cond (is_touched since r) (suc n) n) (touched_later since rs)
  where
    by_test : (b : Bool) → length (map (λ (x : Row). x.id.0) (cond b (r ∷ filter (is_touched since) rs) (filter (is_touched since) rs))) ≡ cond b (suc (length (touched_ids since rs))) (length (touched_ids since rs))
    by_test true = refl
    by_test false = refl

-- a pass touches no row
pub touched_off : (since : ℕ) (s : State) → length (touched_ids since (cut_off s).rows) ≡ length (touched_ids since s.rows)
touched_off since s =
    ap (λ (z : State). length (touched_ids since z.rows)) (cut_off_is s)
    ∙ touched_later since (cut (start_world s.inputs) from_start s.rows)
    ∙ ap (later since) (editions_stay (start_world s.inputs) from_start s.rows)
    ∙ sym (touched_later since s.rows)

-- rows in front touch no fewer
touched_front : (since : ℕ) (front back : List Row) → length (touched_ids since back) ≤ length (touched_ids since (front ++ back))
touched_front since [] back = omega arith
touched_front since (r ∷ front) back = by_test (is_touched since r) (touched_front since front back)
  where
    by_test : (b : Bool) → length (touched_ids since back) ≤ length (touched_ids since (front ++ back)) → length (touched_ids since back) ≤ length (map (λ (x : Row). x.id.0) (cond b (r ∷ filter (is_touched since) (front ++ back)) (filter (is_touched since) (front ++ back))))
    by_test true rest = omega (arith, rest)
    by_test false rest = rest

-- each row that a sweep finds has the edition of the edit
touched_swept : (n : ℕ) (d : Key → Bool) (es : List Entry) → length (touched data_plan d es) ≤ length (touched_ids n (map machine_row (swept_entries (n + 1) d es)))
touched_swept n d [] = omega arith
touched_swept n d (e ∷ es) = by_test (touches d e.1.plan) (touched_swept n (spread d e.1.plan) es)
  where
    new : nat_lt n (n + 1) ≡ true
    new = lt-ltb n (n + 1) (omega arith)

    by_test : (b : Bool) → length (touched data_plan (spread d e.1.plan) es) ≤ length (touched_ids n (map machine_row (swept_entries (n + 1) (spread d e.1.plan) es)))
        → length (cond b (e.0 ∷ touched data_plan (spread d e.1.plan) es) (touched data_plan (spread d e.1.plan) es))
        ≤ length (touched_ids n (machine_row (cond b (with_data (stale_data (n + 1)) e) e) ∷ map machine_row (swept_entries (n + 1) (spread d e.1.plan) es)))
    by_test true rest = rw new (omega (arith, rest))
    by_test false rest =
        let more = touched_front n (machine_row e ∷ []) (map machine_row (swept_entries (n + 1) (spread d e.1.plan) es)) in
        omega (arith, rest, more)

-- the rows that an edit found were touched by it
pub found_touched : (n : ℕ) (d : Key → Bool) (front back zs : List Entry) (ids : List RowId) → ids_in ids ≡ touched data_plan d back → zs ≡ front ++ swept_entries (n + 1) d back → length ids ≤ length (touched_ids n (map machine_row zs))
found_touched n d front back zs ids found is =
    let count : length ids ≡ length (touched data_plan d back) = sym (length-map ids (λ (id : RowId). id.0)) ∙ ap length found in
    let rows : map machine_row zs ≡ map machine_row front ++ map machine_row (swept_entries (n + 1) d back) = ap (map machine_row) is ∙ map-append machine_row front (swept_entries (n + 1) d back) in
    let some = touched_swept n d back in
    let all = touched_front n (map machine_row front) (map machine_row (swept_entries (n + 1) d back)) in
    let same : length (touched_ids n (map machine_row zs)) ≡ length (touched_ids n (map machine_row front ++ map machine_row (swept_entries (n + 1) d back))) = ap (λ rs. length (touched_ids n rs)) rows in
    omega (arith, count, some, all, same)

-- nor does the pass behind it change which they are
pub touched_behind : (since n : ℕ) (s t : State) → n ≤ length (touched_ids since s.rows) → t ≡ cut_off s → n ≤ length (touched_ids since t.rows)
touched_behind since n s t some off =
    let same = touched_off since s in
    subst (λ (z : State). n ≤ length (touched_ids since z.rows)) (sym off) (omega (arith, some, same))
