-- From hit to hit, reaches list what a sweep does.
use Rattle.std.proofs.Common.{◌≡◌, ℕ, zero, suc, ◌+◌, ◌-◌, ◌<◌, ◌≤◌, ◌⊎◌, inl, inr, List, [], ◌∷◌, ◌++◌, length, map, drop, Bool, true, false, cond, Option, Some, None, refl, sym, ap, ◌∙◌, arith, slice_get, subst}
use Rattle.std.proofs.Math.Path.{fun_ext}
use Rattle.std.proofs.lemmas.Bool.Decides.{nat_tests}
use Rattle.std.proofs.lemmas.List.{drop_more, drop_all}
use Rattle.std.proofs.lemmas.Option.{slice_get_within, get_or_from_slice_get}
use Rattle.std.specs.Prelude.{nat_lt, nat_le, ◌&&◌, ◌||◌, min}
use Rattle.std.specs.List.{list_any, AllByRecursion, filter}
use Rattle.paris_names.specs.declared.keys.Key.{Key}
use Rattle.paris_names.specs.Keys.{has_key, key_eq}
use Rattle.paris_names.proofs.KeyLists.{key_eq-true}
use Rattle.paris_depends.specs.Index.{Footprint, writes_key, reads_key}
use Rattle.paris_depends.specs.Places.{at_place}
use Rattle.paris_depends.specs.Reaches.{never, goes_on, last_from, reach_at, moved_past, first_hit, open_at, touches_row, spread_row, touched_rows, IsReach}
use Rattle.paris_depends.specs.declared.reaches.Reach.{Reach}
use Rattle.paris_depends.proofs.Places.{place_from}
use Rattle.paris_depends.proofs.Reaching.{touched_by_reach, at_row, any_append, all_map, all_mapped, all_append, all_both, all_kept, reach-later, reach-new, reach-past}

le_true : (m n : ℕ) → m ≤ n → nat_le m n ≡ true
le_true m n h = grind (arith, nat_tests)

le_false : (m n : ℕ) → n < m → nat_le m n ≡ false
le_false m n h = grind (arith, nat_tests)

from_le : (m n : ℕ) → nat_le m n ≡ true → m ≤ n
from_le m n h = grind (arith, nat_tests)

-- the first hit is no later than any
pub first_hit-before : (reaches : List Reach) → AllByRecursion (λ r. first_hit reaches ≤ r.hit) reaches
first_hit-before reaches = below reaches (first_hit reaches) (omega arith)
  where
    below : (rs : List Reach) (n : ℕ) → n ≤ first_hit rs → AllByRecursion (λ r. n ≤ r.hit) rs
    below [] n h = tt
    below (r ∷ rs) n h = (omega arith, below rs n (omega arith))

-- and no earlier than a place that none is before
pub first_hit-after : (reaches : List Reach) (i : ℕ) → i ≤ never → AllByRecursion (λ r. i ≤ r.hit) reaches → i ≤ first_hit reaches
first_hit-after [] i short all = short
first_hit-after (r ∷ rs) i short all = let rest = first_hit-after rs i short all.1 in let here = all.0 in omega arith

-- what reaches open where they begin
pub open-new : (rows : List (ℕ × Footprint)) (i : ℕ) → i ≤ length rows → (ks : List Key) (k : Key) → open_at (map (λ j. reach_at rows j i) ks) i k ≡ has_key ks k
open-new rows i within [] k = refl
open-new rows i within (j ∷ ks) k =
    let to = le_true i (last_from rows j i) (place_from (writes_key j) rows i within) in
    rw to (ap (λ b. (key_eq k j && true) || b) (open-new rows i within ks k) ∙ ap (λ b. b || has_key ks k) (by_and (key_eq k j)))
  where
    by_and : (b : Bool) → (b && true) ≡ b
    by_and true = refl
    by_and false = refl

module _ (rows : List (ℕ × Footprint)) (i : ℕ) (x : ℕ × Footprint) (at : slice_get rows i ≡ Some x) where
  in_range : i < length rows
  in_range = slice_get_within rows i x at

  -- a row before all hits reads no changed key
  untouched : (reaches : List Reach) → AllByRecursion (IsReach rows i) reaches → AllByRecursion (λ r. i < r.hit) reaches → list_any (λ r. has_key x.1.read r.key && nat_le i r.last) reaches ≡ false
  untouched [] known before = refl
  untouched (r ∷ rs) known before = ap (λ b. b || list_any (λ r. has_key x.1.read r.key && nat_le i r.last) rs) (by_last (nat_le i r.last) refl) ∙ untouched rs known.1 before.1
    where
      none : (b : Bool) → (b && false) ≡ false
      none true = refl
      none false = refl

      by_last : (b : Bool) → nat_le i r.last ≡ b → (has_key x.1.read r.key && b) ≡ false
      by_last false e = none (has_key x.1.read r.key)
      by_last true e =
          let quiet = known.0.quiet i (omega arith) (from_le i r.last e) before.0 in
          ap (λ c. c && true) (sym (at_row (reads_key r.key) rows i x at) ∙ quiet)

  -- a row at the first hit does
  touched_at : (reaches : List Reach) → AllByRecursion (IsReach rows i) reaches → first_hit reaches ≡ i → i < never → list_any (λ r. has_key x.1.read r.key && nat_le i r.last) reaches ≡ true
  touched_at [] known here short = absurd (omega arith)
  touched_at (r ∷ rs) known here short = by_min (λ h. touched_at rs known.1 h short) (either r.hit (first_hit rs) here)
    where
      either : (m n : ℕ) → min m n ≡ i → (m ≡ i) ⊎ (n ≡ i)
      either m n h = grind arith

      by_or : (b : Bool) → (b || true) ≡ true
      by_or true = refl
      by_or false = refl

      by_min : (first_hit rs ≡ i → list_any (λ r. has_key x.1.read r.key && nat_le i r.last) rs ≡ true) → (r.hit ≡ i) ⊎ (first_hit rs ≡ i) → ((has_key x.1.read r.key && nat_le i r.last) || list_any (λ r. has_key x.1.read r.key && nat_le i r.last) rs) ≡ true
      by_min later (inl h) =
          let hits : r.hit < length rows = let w = in_range in omega arith in
          let reads = ap (at_place (reads_key r.key) rows) (sym h) ∙ known.0.reads hits in
          let reached = known.0.reached hits in
          let has : has_key x.1.read r.key ≡ true = sym (at_row (reads_key r.key) rows i x at) ∙ reads in
          let to : nat_le i r.last ≡ true = le_true i r.last (omega arith) in
          rw (has, to) refl
      by_min later (inr h) = ap (λ b. (has_key x.1.read r.key && nat_le i r.last) || b) (later h) ∙ by_or (has_key x.1.read r.key && nat_le i r.last)

  -- past the row the keys stay in reach that it doesn't write
  open-past : (reaches : List Reach) → AllByRecursion (IsReach rows i) reaches → (k : Key) → open_at reaches (i + 1) k ≡ cond (has_key x.1.written k) false (open_at reaches i k)
  open-past [] known k = by_has (has_key x.1.written k)
    where
      by_has : (b : Bool) → false ≡ cond b false false
      by_has true = refl
      by_has false = refl
  open-past (r ∷ rs) known k =
      ap (λ b. (key_eq k r.key && nat_le (i + 1) r.last) || b) (open-past rs known.1 k)
      ∙ ap (λ b. b || cond (has_key x.1.written k) false (open_at rs i k)) (by_key (key_eq k r.key) refl)
      ∙ both (has_key x.1.written k) (key_eq k r.key && nat_le i r.last) (open_at rs i k)
    where
      both : (w a b : Bool) → (cond w false a || cond w false b) ≡ cond w false (a || b)
      both true a b = refl
      both false a b = refl

      none : (w : Bool) → false ≡ cond w false false
      none true = refl
      none false = refl

      ltb_cases : (m n : ℕ) → (m < n) ⊎ (n ≤ m)
      ltb_cases m n = grind (arith, nat_tests)

      same_le : (last : ℕ) → (i ≡ last → ⊥) → nat_le (i + 1) last ≡ nat_le i last
      same_le last h = grind (arith, nat_tests)

      by_write : (w : Bool) → has_key x.1.written r.key ≡ w → nat_le (i + 1) r.last ≡ cond w false (nat_le i r.last)
      by_write true e = by_order (ltb_cases i r.last)
        where
          by_order : (i < r.last) ⊎ (r.last ≤ i) → nat_le (i + 1) r.last ≡ false
          by_order (inl lt) = absurd (let clear = known.0.clear i (omega arith) lt in let writes = at_row (writes_key r.key) rows i x at in cc (clear, writes, e))
          by_order (inr le) = le_false (i + 1) r.last (omega arith)
      by_write false e = same_le r.last (λ here.
          let w = in_range in
          let ends = known.0.ends (omega arith) (omega arith) in
          let writes = at_row (writes_key r.key) rows i x at in
          let there = ap (at_place (writes_key r.key) rows) here ∙ ends in
          cc (writes, e, there))

      by_key : (b : Bool) → key_eq k r.key ≡ b → (b && nat_le (i + 1) r.last) ≡ cond (has_key x.1.written k) false (b && nat_le i r.last)
      by_key false e = none (has_key x.1.written k)
      by_key true e =
          let same : k ≡ r.key = key_eq-true k r.key e in
          by_write (has_key x.1.written k) (ap (has_key x.1.written) (sym same))

  -- past a row that reads no changed key
  past-untouched : (reaches : List Reach) → AllByRecursion (IsReach rows i) reaches → AllByRecursion (λ r. i < r.hit) reaches
      → touched_rows (open_at reaches i) (drop i rows) ≡ touched_rows (open_at reaches (i + 1)) (drop (i + 1) rows)
  past-untouched reaches known before =
      let none = touched_by_reach reaches i x.1.read ∙ untouched reaches known before in
      ap (touched_rows (open_at reaches i)) (drop_more rows i x in_range ∙ ap (λ y. y ∷ drop (i + 1) rows) (get_or_from_slice_get rows i x x at))
      ∙ ap (λ b. cond b (x.0 ∷ touched_rows (spread_row (open_at reaches i) x.1) (drop (i + 1) rows)) (touched_rows (spread_row (open_at reaches i) x.1) (drop (i + 1) rows))) none
      ∙ ap (λ (d : Key → Bool). touched_rows d (drop (i + 1) rows)) (fun_ext (λ k. ap (λ b. cond (has_key x.1.written k) b (open_at reaches i k)) none ∙ sym (open-past reaches known k)))

  open-moved : (reaches : List Reach) (n : ℕ) (k : Key) → open_at (map (moved_past rows i) reaches) n k ≡ open_at reaches n k
  open-moved [] n k = refl
  open-moved (r ∷ rs) n k = ap (λ b. (key_eq k (moved_past rows i r).key && nat_le n (moved_past rows i r).last) || b) (open-moved rs n k) ∙ ap (λ b. b || open_at rs n k) (by_test (Rattle.std.specs.Prelude.nat_eq r.hit i))
    where
      by_test : (b : Bool) → (key_eq k (cond b (Rattle.paris_depends.specs.Reaches.moved rows r) r).key && nat_le n (cond b (Rattle.paris_depends.specs.Reaches.moved rows r) r).last) ≡ (key_eq k r.key && nat_le n r.last)
      by_test true = refl
      by_test false = refl

  -- the reaches that end there open nothing behind the row
  open-left : (reaches : List Reach) (k : Key) → open_at (filter (goes_on i) reaches) (i + 1) k ≡ open_at reaches (i + 1) k
  open-left [] k = refl
  open-left (r ∷ rs) k = by_test (nat_lt i r.last) refl (open-left rs k)
    where
      ended : (last : ℕ) → nat_lt i last ≡ false → nat_le (i + 1) last ≡ false
      ended last e = grind (arith, nat_tests)

      none : (b : Bool) → (b && false) ≡ false
      none true = refl
      none false = refl

      by_test : (b : Bool) → nat_lt i r.last ≡ b → open_at (filter (goes_on i) rs) (i + 1) k ≡ open_at rs (i + 1) k → open_at (cond b (r ∷ filter (goes_on i) rs) (filter (goes_on i) rs)) (i + 1) k ≡ ((key_eq k r.key && nat_le (i + 1) r.last) || open_at rs (i + 1) k)
      by_test true e rest = ap (λ b. (key_eq k r.key && nat_le (i + 1) r.last) || b) rest
      by_test false e rest = rest ∙ sym (ap (λ b. (key_eq k r.key && b) || open_at rs (i + 1) k) (ended r.last e) ∙ ap (λ b. b || open_at rs (i + 1) k) (none (key_eq k r.key)))

  -- past a row at the first hit
  pub past-touched : (reaches new : List Reach) → AllByRecursion (IsReach rows i) reaches → first_hit reaches ≡ i → i < never
      → new ≡ map (moved_past rows i) (filter (goes_on i) reaches) ++ map (λ j. reach_at rows j (i + 1)) x.1.written
      → touched_rows (open_at reaches i) (drop i rows) ≡ x.0 ∷ touched_rows (open_at new (i + 1)) (drop (i + 1) rows)
  past-touched reaches new known here short made =
      let some = touched_by_reach reaches i x.1.read ∙ touched_at reaches known here short in
      ap (touched_rows (open_at reaches i)) (drop_more rows i x in_range ∙ ap (λ y. y ∷ drop (i + 1) rows) (get_or_from_slice_get rows i x x at))
      ∙ ap (λ b. cond b (x.0 ∷ touched_rows (spread_row (open_at reaches i) x.1) (drop (i + 1) rows)) (touched_rows (spread_row (open_at reaches i) x.1) (drop (i + 1) rows))) some
      ∙ ap (λ (d : Key → Bool). x.0 ∷ touched_rows d (drop (i + 1) rows)) (fun_ext (λ k.
      ap (λ b. cond (has_key x.1.written k) b (open_at reaches i k)) some
      ∙ by_has (has_key x.1.written k) (open_at reaches i k)
      ∙ sym (ap (λ l. open_at l (i + 1) k) made
      ∙ any_append (λ r. key_eq k r.key && nat_le (i + 1) r.last) (map (moved_past rows i) (filter (goes_on i) reaches)) (map (λ j. reach_at rows j (i + 1)) x.1.written)
      ∙ ap (λ b. b || open_at (map (λ j. reach_at rows j (i + 1)) x.1.written) (i + 1) k) (open-moved (filter (goes_on i) reaches) (i + 1) k ∙ open-left reaches k ∙ open-past reaches known k)
      ∙ ap (λ b. cond (has_key x.1.written k) false (open_at reaches i k) || b) (open-new rows (i + 1) (let w = in_range in omega arith) x.1.written k))))
    where
      by_has : (w b : Bool) → cond w true b ≡ (cond w false b || w)
      by_has true b = refl
      by_has false true = refl
      by_has false false = refl

  -- and what is then known of the reaches
  pub known-past : (reaches new : List Reach) → AllByRecursion (IsReach rows i) reaches → length rows ≤ never
      → new ≡ map (moved_past rows i) (filter (goes_on i) reaches) ++ map (λ j. reach_at rows j (i + 1)) x.1.written → AllByRecursion (IsReach rows (i + 1)) new
  known-past reaches new known short made =
      let P : List Reach → Type 0 = AllByRecursion (IsReach rows (i + 1)) in
      subst P (sym made) (all_append (IsReach rows (i + 1)) (map (moved_past rows i) (filter (goes_on i) reaches)) (map (λ j. reach_at rows j (i + 1)) x.1.written)
      (all_mapped (IsReach rows i) (IsReach rows (i + 1)) (moved_past rows i) (λ r h. reach-past rows i r in_range short h) (filter (goes_on i) reaches) (all_kept (goes_on i) (IsReach rows i) reaches known))
      (all_map (IsReach rows (i + 1)) (λ j. reach_at rows j (i + 1)) (λ j. reach-new rows j (i + 1) (let w = in_range in omega arith) short) x.1.written))

module _ (rows : List (ℕ × Footprint)) where
  no_row : (i : ℕ) → slice_get rows i ≡ None → length rows ≤ i
  no_row i none = past rows i none
    where
      past : (xs : List (ℕ × Footprint)) (i : ℕ) → slice_get xs i ≡ None → length xs ≤ i
      past [] i none = omega arith
      past (x ∷ xs) zero none = absurd (cc)
      past (x ∷ xs) (suc i) none = let rest = past xs i none in omega (arith, rest)

  -- no row is listed before the first hit
  skipped : (gap i : ℕ) (reaches : List Reach) → AllByRecursion (IsReach rows i) reaches → AllByRecursion (λ r. i + gap ≤ r.hit) reaches
      → touched_rows (open_at reaches i) (drop i rows) ≡ touched_rows (open_at reaches (i + gap)) (drop (i + gap) rows)
  skipped zero i reaches known before = ap (λ n. touched_rows (open_at reaches n) (drop n rows)) (let e : i ≡ i + 0 = omega arith in e)
  skipped (suc gap) i reaches known before = by_row (skipped gap (i + 1) reaches) (slice_get rows i) refl
    where
      by_row : (AllByRecursion (IsReach rows (i + 1)) reaches → AllByRecursion (λ r. i + 1 + gap ≤ r.hit) reaches → touched_rows (open_at reaches (i + 1)) (drop (i + 1) rows) ≡ touched_rows (open_at reaches (i + 1 + gap)) (drop (i + 1 + gap) rows)) → (o : Option (ℕ × Footprint)) → slice_get rows i ≡ o → touched_rows (open_at reaches i) (drop i rows) ≡ touched_rows (open_at reaches (i + suc gap)) (drop (i + suc gap) rows)
      by_row later None e =
          let past = no_row i e in
          ap (touched_rows (open_at reaches i)) (drop_all i rows past) ∙ sym (ap (touched_rows (open_at reaches (i + suc gap))) (drop_all (i + suc gap) rows (omega arith)))
      by_row later (Some x) e =
          past-untouched rows i x e reaches known (all_both (λ r. i + suc gap ≤ r.hit) (λ r. i + suc gap ≤ r.hit) (λ r. i < r.hit) (λ r h k. omega arith) reaches before before)
          ∙ later
          (all_both (IsReach rows i) (λ r. i + suc gap ≤ r.hit) (IsReach rows (i + 1)) (λ r h k. reach-later rows i (i + 1) r h (omega arith) (omega arith)) reaches known before)
          (all_both (λ r. i + suc gap ≤ r.hit) (λ r. i + suc gap ≤ r.hit) (λ r. i + 1 + gap ≤ r.hit) (λ r h k. omega arith) reaches before before)
          ∙ ap (λ n. touched_rows (open_at reaches n) (drop n rows)) (let e : i + 1 + gap ≡ i + suc gap = omega arith in e)

  behind_all : (i : ℕ) (reaches : List Reach) → AllByRecursion (IsReach rows i) reaches → AllByRecursion (λ r. i ≤ r.hit) reaches
  behind_all i [] known = tt
  behind_all i (r ∷ rs) known = (known.0.behind, behind_all i rs known.1)

  -- the place moves on to the first hit
  pub to-first_hit : (i : ℕ) (reaches : List Reach) → i ≤ never → AllByRecursion (IsReach rows i) reaches
      → (i ≤ first_hit reaches) × (touched_rows (open_at reaches i) (drop i rows) ≡ touched_rows (open_at reaches (first_hit reaches)) (drop (first_hit reaches) rows)) × AllByRecursion (IsReach rows (first_hit reaches)) reaches
  to-first_hit i reaches short known =
      let up : i ≤ first_hit reaches = first_hit-after reaches i short (behind_all i reaches known) in
      let before = first_hit-before reaches in
      let sum : i + (first_hit reaches - i) ≡ first_hit reaches = omega arith in
      let P : ℕ → Type 0 = λ n. AllByRecursion (λ r. n ≤ r.hit) reaches in (
        up,
        skipped (first_hit reaches - i) i reaches known (subst P (sym sum) before) ∙ ap (λ n. touched_rows (open_at reaches n) (drop n rows)) sum,
        all_both (IsReach rows i) (λ r. first_hit reaches ≤ r.hit) (IsReach rows (first_hit reaches)) (λ r h k. reach-later rows i (first_hit reaches) r h up k) reaches known before,
      )
