-- The search for unsettled rows by their statuses.
use Rattle.std.proofs.Common.{◌≡◌, ℕ, ◌+◌, ◌-◌, ◌<◌, ◌≤◌, List, [], ◌∷◌, Bool, true, false, cond, Option, Some, None, refl, sym, ap, ◌∙◌, arith, map, length, take, drop, zero, suc, add-zero, add-one, slice_get}
use Rattle.std.specs.Prelude.{not, IfSome}
use Rattle.std.specs.List.{list_all, position_from, count_by}
use Rattle.std.proofs.lemmas.List.{length-map}
use Rattle.std.proofs.lemmas.List.Sums.{sum_by-cons}
use Rattle.std.proofs.lemmas.Option.{slice_get_within}
use Rattle.paris_edits.specs.Rows.{is_settled}
use Rattle.paris_edits.specs.declared.rows.Status.{Status}
use Rattle.paris_events.specs.State.{Row}
use Rattle.paris_events.specs.Settling.{unsettled_rows}
use Rattle.paris_book.specs.Entries.{Entry, machine_row}
use Rattle.paris_book.specs.Statuses.{statuses_of, is_unsettled, first_unsettled, next_unsettled}
use Rattle.paris_events.proofs.Runs.{are_settled}
use Rattle.paris_events.proofs.Tests.{and_first, and_second}

module _ {X : Type 0} where
  drop_at : (xs : List X) (i : ℕ) (x : X) → slice_get xs i ≡ Some x → drop i xs ≡ x ∷ drop (suc i) xs
  drop_at [] i x at = absurd (cc)
  drop_at (y ∷ xs) zero x at = let same : y ≡ x = cc in ap (λ z. z ∷ xs) same
  drop_at (y ∷ xs) (suc i) x at = drop_at xs i x at

  drop_past : (xs : List X) (i : ℕ) → length xs ≤ i → drop i xs ≡ []
  drop_past [] zero past = refl
  drop_past [] (suc i) past = refl
  drop_past (y ∷ xs) zero past = absurd (omega arith)
  drop_past (y ∷ xs) (suc i) past = drop_past xs i (omega arith)

  get_dropped : (xs : List X) (n i m : ℕ) → m ≡ n + i → slice_get (drop n xs) i ≡ slice_get xs m
  get_dropped [] zero i m is = refl
  get_dropped [] (suc n) i m is = refl
  get_dropped (y ∷ xs) zero i m is = let same : i ≡ m = omega (arith, is) in ap (slice_get (y ∷ xs)) same
  get_dropped (y ∷ xs) (suc n) i zero is = absurd (omega (arith, is))
  get_dropped (y ∷ xs) (suc n) i (suc m) is = get_dropped xs n i m (omega (arith, is))

  all_joined : (q : X → Bool) (xs : List X) (n i m : ℕ) → m ≡ n + i → list_all q (take n xs) ≡ true → list_all q (take i (drop n xs)) ≡ true → list_all q (take m xs) ≡ true
  all_joined q [] n i zero is front back = refl
  all_joined q [] n i (suc m) is front back = refl
  all_joined q (y ∷ xs) zero i m is front back = let same : i ≡ m = omega (arith, is) in ap (λ k. list_all q (take k (y ∷ xs))) (sym same) ∙ back
  all_joined q (y ∷ xs) (suc n) i zero is front back = absurd (omega (arith, is))
  all_joined q (y ∷ xs) (suc n) i (suc m) is front back =
      rw (and_first (q y) (list_all q (take n xs)) front) (all_joined q xs n i m (omega (arith, is)) (and_second (q y) (list_all q (take n xs)) front) back)

  all_split : (q : X → Bool) (xs : List X) (n : ℕ) → list_all q (take n xs) ≡ true → list_all q (drop n xs) ≡ true → list_all q xs ≡ true
  all_split q [] n front back = refl
  all_split q (y ∷ xs) zero front back = back
  all_split q (y ∷ xs) (suc n) front back = rw (and_first (q y) (list_all q (take n xs)) front) (all_split q xs n (and_second (q y) (list_all q (take n xs)) front) back)

  module _ (p : X → Bool) where
    -- one step of the search
    pub search_here : (xs : List X) (i : ℕ) (x : X) → slice_get xs i ≡ Some x → p x ≡ true → position_from p i (drop i xs) ≡ Some i
    search_here xs i x at passes = ap (position_from p i) (drop_at xs i x at) ∙ ap (λ b. cond b (Some i) (position_from p (i + 1) (drop (suc i) xs))) passes

    pub search_on : (xs : List X) (i : ℕ) (x : X) → slice_get xs i ≡ Some x → p x ≡ false → position_from p i (drop i xs) ≡ position_from p (i + 1) (drop (i + 1) xs)
    search_on xs i x at fails =
        ap (position_from p i) (drop_at xs i x at)
        ∙ ap (λ b. cond b (Some i) (position_from p (i + 1) (drop (suc i) xs))) fails
        ∙ ap (λ k. position_from p (i + 1) (drop k xs)) (sym (add-one i))

    pub search_past : (xs : List X) (i : ℕ) → length xs ≤ i → position_from p i (drop i xs) ≡ None
    search_past xs i past = ap (position_from p i) (drop_past xs i past)

    module _ (q : X → Bool) (others : (x : X) → p x ≡ false → q x ≡ true) where
      -- what was found, and what stands before it
      found_from : (xs : List X) (n k : ℕ) → position_from p n xs ≡ Some k → (i : ℕ) × (k ≡ n + i) × (x : X) × (slice_get xs i ≡ Some x) × (p x ≡ true) × (list_all q (take i xs) ≡ true)
      found_from [] n k found = absurd (cc)
      found_from (y ∷ xs) n k found = by_test (found_from xs (n + 1) k) (p y) refl found
        where
          by_test : (position_from p (n + 1) xs ≡ Some k → (i : ℕ) × (k ≡ n + 1 + i) × (x : X) × (slice_get xs i ≡ Some x) × (p x ≡ true) × (list_all q (take i xs) ≡ true))
              → (b : Bool) → p y ≡ b → cond b (Some n) (position_from p (n + 1) xs) ≡ Some k
              → (i : ℕ) × (k ≡ n + i) × (x : X) × (slice_get (y ∷ xs) i ≡ Some x) × (p x ≡ true) × (list_all q (take i (y ∷ xs)) ≡ true)
          by_test rest true t h = let same : n ≡ k = cc in (0, sym same ∙ sym (add-zero n), y, refl, t, refl)
          by_test rest false t h =
              let r = rest h in
              let place : k ≡ n + 1 + r.0 = r.1 in
              (suc r.0, omega (arith, place), r.2, r.3, r.4, rw (others y t) r.5)

      none_from : (xs : List X) (n : ℕ) → position_from p n xs ≡ None → list_all q xs ≡ true
      none_from [] n none = refl
      none_from (y ∷ xs) n none = by_test (none_from xs (n + 1)) (p y) refl none
        where
          by_test : (position_from p (n + 1) xs ≡ None → list_all q xs ≡ true) → (b : Bool) → p y ≡ b → cond b (Some n) (position_from p (n + 1) xs) ≡ None → list_all q (y ∷ xs) ≡ true
          by_test rest true t h = absurd (cc)
          by_test rest false t h = rw (others y t) (rest h)

      pub search_found : (xs : List X) (n k : ℕ) → position_from p n (drop n xs) ≡ Some k → list_all q (take n xs) ≡ true
          → (x : X) × (slice_get xs k ≡ Some x) × (p x ≡ true) × (list_all q (take k xs) ≡ true) × (n ≤ k)
      search_found xs n k found front =
          let f = found_from (drop n xs) n k found in
          let place = f.1 in (
            f.2,
            sym (get_dropped xs n f.0 k place) ∙ f.3,
            f.4,
            all_joined q xs n f.0 k place front f.5,
            omega (arith, place),
          )

      pub search_none : (xs : List X) (n : ℕ) → position_from p n (drop n xs) ≡ None → list_all q (take n xs) ≡ true → list_all q xs ≡ true
      search_none xs n none front = all_split q xs n front (none_from (drop n xs) n none)

-- ---- of rows

-- the search among rows
seen_from : (es : List Entry) (n : ℕ) → position_from is_unsettled n (statuses_of es) ≡ position_from (λ (r : Row). is_unsettled r.status) n (map machine_row es)
seen_from [] n = refl
seen_from (e ∷ es) n = ap (λ o. cond (is_unsettled e.1.status) (Some n) o) (seen_from es (n + 1))

dropped_seen : (es : List Entry) (n from : ℕ) → position_from is_unsettled n (drop from (statuses_of es)) ≡ position_from (λ (r : Row). is_unsettled r.status) n (drop from (map machine_row es))
dropped_seen [] n zero = refl
dropped_seen [] n (suc from) = refl
dropped_seen (e ∷ es) n zero = seen_from (e ∷ es) n
dropped_seen (e ∷ es) n (suc from) = dropped_seen es n from

pub next_seen : (es : List Entry) (statuses : List Status) (from : ℕ) → statuses_of es ≡ statuses → first_unsettled statuses from ≡ next_unsettled (map machine_row es) from
next_seen es statuses from standing = ap (λ (l : List Status). first_unsettled l from) (sym standing) ∙ dropped_seen es from from

count_rows : (es : List Entry) → count_by is_unsettled (statuses_of es) ≡ unsettled_rows (map machine_row es)
count_rows [] = refl
count_rows (e ∷ es) = sum_by-cons (λ s. cond (is_unsettled s) 1 0) e.1.status (statuses_of es) ∙ by_status (is_settled e.1.status) (count_rows es)
  where
    by_status : (b : Bool) → count_by is_unsettled (statuses_of es) ≡ unsettled_rows (map machine_row es) → cond (not b) 1 0 + count_by is_unsettled (statuses_of es) ≡ cond b 0 1 + unsettled_rows (map machine_row es)
    by_status true rest = ap (λ n. 0 + n) rest
    by_status false rest = ap (λ n. 1 + n) rest

-- how many rows are unsettled
pub count_seen : (es : List Entry) (statuses : List Status) → statuses_of es ≡ statuses → count_by is_unsettled statuses ≡ unsettled_rows (map machine_row es)
count_seen es statuses standing = ap (λ (l : List Status). count_by is_unsettled l) (sym standing) ∙ count_rows es

settled_else : (s : Status) → is_unsettled s ≡ false → is_settled s ≡ true
settled_else s h = by_test (is_settled s) h
  where
    by_test : (b : Bool) → not b ≡ false → b ≡ true
    by_test true h = refl
    by_test false h = absurd (let x : true ≡ false = h in cc)

unsettled_is : (s : Status) → is_unsettled s ≡ true → is_settled s ≡ false
unsettled_is s h = by_test (is_settled s) h
  where
    by_test : (b : Bool) → not b ≡ true → b ≡ false
    by_test true h = absurd (let x : false ≡ true = h in cc)
    by_test false h = refl

-- the row that is found, behind settled ones
pub next_row : (rs : List Row) (from k : ℕ) → next_unsettled rs from ≡ Some k → are_settled (take from rs) ≡ true
    → (r : Row) × (slice_get rs k ≡ Some r) × (is_settled r.status ≡ false) × (are_settled (take k rs) ≡ true) × (from ≤ k)
next_row rs from k found before =
    let f = search_found (λ (r : Row). is_unsettled r.status) (λ (r : Row). is_settled r.status) (λ r h. settled_else r.status h) rs from k found before in
    (f.0, f.1, unsettled_is f.0.status f.2, f.3, f.4)

-- and where none is found
pub no_next_row : (rs : List Row) (from : ℕ) → next_unsettled rs from ≡ None → are_settled (take from rs) ≡ true → are_settled rs ≡ true
no_next_row rs from none before = search_none (λ (r : Row). is_unsettled r.status) (λ (r : Row). is_settled r.status) (λ r h. settled_else r.status h) rs from none before

-- what is found stands within the rows
next_within : (rs : List Row) (from k : ℕ) → next_unsettled rs from ≡ Some k → (from ≤ k) × (k < length rs)
next_within rs from k found =
    let f = search_found (λ (r : Row). is_unsettled r.status) (λ _. true) (λ r h. refl) rs from k found (all_true (take from rs)) in
    (f.4, slice_get_within rs k f.0 f.1)
  where
    all_true : (xs : List Row) → list_all (λ _. true) xs ≡ true
    all_true [] = refl
    all_true (x ∷ xs) = all_true xs

pub found_within : (es : List Entry) (from : ℕ) (o : Option ℕ) → o ≡ next_unsettled (map machine_row es) from → IfSome o (λ place. (from ≤ place) × (place < length es))
found_within es from None is = tt
found_within es from (Some k) is =
    let within = next_within (map machine_row es) from k (sym is) in
    let long = length-map es machine_row in
    (within.0, let few = within.1 in omega (arith, few, long))

-- ---- which rows a search passed over

over_from : (rs : List Row) (n k i : ℕ) (r : Row) → position_from (λ (r : Row). is_unsettled r.status) n rs ≡ Some k → n + i < k → slice_get rs i ≡ Some r → is_settled r.status ≡ true
over_from [] n k i r found less at = absurd (cc)
over_from (y ∷ rs) n k i r found less at = by_test (λ j. over_from rs (n + 1) k j r) (is_unsettled y.status) refl found i less at
  where
    by_test : ((j : ℕ) → position_from (λ (r : Row). is_unsettled r.status) (n + 1) rs ≡ Some k → n + 1 + j < k → slice_get rs j ≡ Some r → is_settled r.status ≡ true)
        → (b : Bool) → is_unsettled y.status ≡ b → cond b (Some n) (position_from (λ (r : Row). is_unsettled r.status) (n + 1) rs) ≡ Some k → (i : ℕ) → n + i < k → slice_get (y ∷ rs) i ≡ Some r → is_settled r.status ≡ true
    by_test rest true t h i l a = let same : n ≡ k = cc in absurd (omega (arith, same, l))
    by_test rest false t h zero l a = let same : y ≡ r = cc in settled_else r.status (ap (λ (z : Row). is_unsettled z.status) (sym same) ∙ t)
    by_test rest false t h (suc i) l a = rest i h (omega (arith, l)) a

beyond_from : (rs : List Row) (n i : ℕ) (r : Row) → position_from (λ (r : Row). is_unsettled r.status) n rs ≡ None → slice_get rs i ≡ Some r → is_settled r.status ≡ true
beyond_from [] n i r none at = absurd (cc)
beyond_from (y ∷ rs) n i r none at = by_test (λ j. beyond_from rs (n + 1) j r) (is_unsettled y.status) refl none i at
  where
    by_test : ((j : ℕ) → position_from (λ (r : Row). is_unsettled r.status) (n + 1) rs ≡ None → slice_get rs j ≡ Some r → is_settled r.status ≡ true)
        → (b : Bool) → is_unsettled y.status ≡ b → cond b (Some n) (position_from (λ (r : Row). is_unsettled r.status) (n + 1) rs) ≡ None → (i : ℕ) → slice_get (y ∷ rs) i ≡ Some r → is_settled r.status ≡ true
    by_test rest true t h i a = absurd (cc)
    by_test rest false t h zero a = let same : y ≡ r = cc in settled_else r.status (ap (λ (z : Row). is_unsettled z.status) (sym same) ∙ t)
    by_test rest false t h (suc i) a = rest i h a

pub passed_over : (rs : List Row) (from k : ℕ) → next_unsettled rs from ≡ Some k → (i : ℕ) (r : Row) → from ≤ i → i < k → slice_get rs i ≡ Some r → is_settled r.status ≡ true
passed_over rs from k found i r more less at =
    let gap : i ≡ from + (i - from) = omega (arith, more) in
    over_from (drop from rs) from k (i - from) r found (omega (arith, more, less)) (get_dropped rs from (i - from) i gap ∙ at)

pub none_beyond : (rs : List Row) (from : ℕ) → next_unsettled rs from ≡ None → (i : ℕ) (r : Row) → from ≤ i → slice_get rs i ≡ Some r → is_settled r.status ≡ true
none_beyond rs from none i r more at =
    let gap : i ≡ from + (i - from) = omega (arith, more) in
    beyond_from (drop from rs) from (i - from) r none (get_dropped rs from (i - from) i gap ∙ at)
