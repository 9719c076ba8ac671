-- A span of unsettled rows, after a status is put in, taken out or written.
use Rattle.std.proofs.Common.{◌≡◌, ℕ, zero, suc, ◌+◌, ◌<◌, ◌≤◌, List, [], ◌∷◌, Bool, true, false, cond, Some, None, refl, sym, ap, ◌∙◌, subst, arith, length, max, length-set, set, drop, add-one, add-zero, ◌-◌, slice_get}
use Rattle.std.specs.Prelude.{insert, remove}
use Rattle.std.specs.List.{count_by, position_from}
use Rattle.std.proofs.lemmas.List.Edits.{length-insert, length-remove}
use Rattle.paris_names.specs.declared.limits.TheConstants.{MAX_ROWS}
use Rattle.std.proofs.lemmas.List.Sums.{sum_by-cons, sum_by-set, sum_by-insert, sum_by-remove, count_by-le-length}
use Rattle.std.proofs.lemmas.Option.{slice_get_within, get_or_from_slice_get}
use Rattle.paris_edits.specs.declared.rows.Status.{Status}
use Rattle.paris_book.specs.Statuses.{IsInSpan, IsSpanned, is_unsettled, first_unsettled}
use Rattle.paris_book.specs.declared.statuses.Span.{Span}

module _ {X : Type 0} where
  -- a property of each place of a list, after an element is written, put in or taken out
  at_set : (P : ℕ → X → Type 0) (xs : List X) (i : ℕ) (y : X) → ((j : ℕ) (x : X) → (j ≡ i → ⊥) → slice_get xs j ≡ Some x → P j x) → P i y
      → (j : ℕ) (x : X) → slice_get (set xs i y) j ≡ Some x → P j x
  at_set P [] i y others there j x at = absurd (cc)
  at_set P (z ∷ xs) zero y others there zero x at = let same : y ≡ x = cc in subst (P 0) same there
  at_set P (z ∷ xs) zero y others there (suc j) x at = others (suc j) x (λ is. absurd (omega (arith, is))) at
  at_set P (z ∷ xs) (suc i) y others there zero x at = others 0 x (λ is. absurd (omega (arith, is))) at
  at_set P (z ∷ xs) (suc i) y others there (suc j) x at =
      at_set (λ k. P (suc k)) xs i y (λ k v apart seen. others (suc k) v (λ is. apart (omega (arith, is))) seen) there j x at

  at_insert : (P : ℕ → X → Type 0) (xs : List X) (i : ℕ) (y : X) → i ≤ length xs → ((j : ℕ) (x : X) → j < i → slice_get xs j ≡ Some x → P j x) → P i y → ((j : ℕ) (x : X) → i ≤ j → slice_get xs j ≡ Some x → P (suc j) x)
      → (j : ℕ) (x : X) → slice_get (insert xs i y) j ≡ Some x → P j x
  at_insert P xs zero y within before there behind zero x at = let same : y ≡ x = cc in subst (P 0) same there
  at_insert P xs zero y within before there behind (suc j) x at = behind j x (omega arith) at
  at_insert P [] (suc i) y within before there behind j x at = absurd (omega (arith, within))
  at_insert P (z ∷ xs) (suc i) y within before there behind zero x at = before 0 x (omega arith) at
  at_insert P (z ∷ xs) (suc i) y within before there behind (suc j) x at =
      at_insert (λ k. P (suc k)) xs i y (omega (arith, within)) (λ k v first seen. before (suc k) v (omega (arith, first)) seen) there (λ k v last seen. behind (suc k) v (omega (arith, last)) seen) j x at

  at_remove : (P : ℕ → X → Type 0) (xs : List X) (i : ℕ) → ((j : ℕ) (x : X) → j < i → slice_get xs j ≡ Some x → P j x) → ((j : ℕ) (x : X) → i ≤ j → slice_get xs (suc j) ≡ Some x → P j x)
      → (j : ℕ) (x : X) → slice_get (remove xs i) j ≡ Some x → P j x
  at_remove P [] zero before behind j x at = absurd (cc)
  at_remove P [] (suc i) before behind j x at = absurd (cc)
  at_remove P (z ∷ xs) zero before behind j x at = behind j x (omega arith) at
  at_remove P (z ∷ xs) (suc i) before behind zero x at = before 0 x (omega arith) at
  at_remove P (z ∷ xs) (suc i) before behind (suc j) x at =
      at_remove (λ k. P (suc k)) xs i (λ k v first seen. before (suc k) v (omega (arith, first)) seen) (λ k v last seen. behind (suc k) v (omega (arith, last)) seen) j x at

  module _ (p : X → Bool) where
    one : X → ℕ
    one x = cond (p x) 1 0

    pub count_set : (xs : List X) (i : ℕ) (x y : X) → slice_get xs i ≡ Some x → count_by p (set xs i y) + cond (p x) 1 0 ≡ count_by p xs + cond (p y) 1 0
    count_set xs i x y at =
        ap (λ v. count_by p (set xs i y) + cond (p v) 1 0) (sym (get_or_from_slice_get xs i x x at)) ∙ sum_by-set (λ v. cond (p v) 1 0) xs i y x (slice_get_within xs i x at)

    pub count_remove : (xs : List X) (i : ℕ) (x : X) → slice_get xs i ≡ Some x → count_by p (remove xs i) + cond (p x) 1 0 ≡ count_by p xs
    count_remove xs i x at =
        ap (λ v. count_by p (remove xs i) + cond (p v) 1 0) (sym (get_or_from_slice_get xs i x x at)) ∙ sum_by-remove (λ v. cond (p v) 1 0) xs i x (slice_get_within xs i x at)

    -- where one passes, some are counted
    counted : (xs : List X) (i : ℕ) (x : X) → slice_get xs i ≡ Some x → p x ≡ true → 0 < count_by p xs
    counted xs i x at passes =
        let here : ◌≡◌ {A = ℕ} (cond (p x) 1 0) 1 = ap (λ b. cond b 1 0) passes in
        let rest = count_remove xs i x at in
        omega (arith, here, rest)

    -- and more than one, where another one does
    counted_both : (xs : List X) (i j : ℕ) (x y : X) → (j ≡ i → ⊥) → slice_get xs i ≡ Some x → slice_get xs j ≡ Some y → p y ≡ true → cond (p x) 1 0 < count_by p xs
    counted_both [] i j x y apart at there passes = absurd (cc)
    counted_both (z ∷ xs) zero zero x y apart at there passes = absurd (apart refl)
    counted_both (z ∷ xs) zero (suc j) x y apart at there passes =
        let same : z ≡ x = cc in
        let rest = counted xs j y there passes in
        let first : ◌≡◌ {A = ℕ} (cond (p z) 1 0) (cond (p x) 1 0) = ap (λ v. cond (p v) 1 0) same in
        let all = sum_by-cons (λ v. cond (p v) 1 0) z xs in
        omega (arith, rest, first, all)
    counted_both (z ∷ xs) (suc i) zero x y apart at there passes =
        let same : z ≡ y = cc in
        let here : ◌≡◌ {A = ℕ} (cond (p z) 1 0) 1 = ap (λ v. cond (p v) 1 0) same ∙ ap (λ b. cond b 1 0) passes in
        let rest = count_remove xs i x at in
        let all = sum_by-cons (λ v. cond (p v) 1 0) z xs in
        omega (arith, here, rest, all)
    counted_both (z ∷ xs) (suc i) (suc j) x y apart at there passes =
        let rest = counted_both xs i j x y (λ is. apart (ap suc is)) at there passes in
        let all = sum_by-cons (λ v. cond (p v) 1 0) z xs in
        omega (arith, rest, all)

-- a count's part of one status
abbrev part : Status → ℕ
part s = cond (is_unsettled s) 1 0

pub fewer_than_rows : (l : List Status) (old mid : Span) (i : ℕ) (x : Status) → IsSpanned l old → i < length l → mid.unsettled + part x ≡ old.unsettled → slice_get l i ≡ Some x → mid.unsettled < MAX_ROWS
fewer_than_rows l old mid i x w within less at =
    let rest = count_remove is_unsettled l i x at in
    let most = count_by-le-length is_unsettled (remove l i) in
    let long = length-remove l i within in
    let few = w.few in
    let count = w.count in
    omega (arith, rest, most, long, few, count, less)

-- after a status is written
pub spanned_set : (l : List Status) (i : ℕ) (x y : Status) (old mid new : Span) → IsSpanned l old → slice_get l i ≡ Some x
    → mid.unsettled + part x ≡ old.unsettled → ((j : ℕ) → (j ≡ i → ⊥) → IsInSpan old j → IsInSpan mid j) → mid.end ≤ old.end
    → new.unsettled ≡ mid.unsettled + part y → (is_unsettled y ≡ true → IsInSpan new i) → ((j : ℕ) → 0 < mid.unsettled → IsInSpan mid j → IsInSpan new j) → ((n : ℕ) → mid.end ≤ n → i < n → new.end ≤ n)
    → IsSpanned (set l i y) new
spanned_set l i x y old mid new w at less kept ends more there others end =
    let long = length-set l i y in
    let few = w.few in
    let within = w.within in
    let here = slice_get_within l i x at in
    let count = w.count in
    let change = count_set is_unsettled l i x y at in
    let last = end (length l) (omega (arith, ends, within)) here in
    record {
      few = omega (arith, long, few);
      within = omega (arith, last, long);
      count = omega (arith, count, change, less, more);
      held = at_set (λ j s. is_unsettled s ≡ true → IsInSpan new j) l i y
          (λ j s apart seen unsettled.
          let both = counted_both is_unsettled l i j x s apart at seen unsettled in
          others j (omega (arith, both, count, less)) (kept j apart (w.held j s seen unsettled)))
          there;
    }

-- after one is put in
pub spanned_insert : (l : List Status) (i : ℕ) (y : Status) (old mid new : Span) → IsSpanned l old → i ≤ length l → length l < MAX_ROWS
    → mid.unsettled ≡ old.unsettled → ((j : ℕ) → j < i → IsInSpan old j → IsInSpan mid j) → ((j : ℕ) → i ≤ j → IsInSpan old j → IsInSpan mid (j + 1)) → mid.end ≤ old.end + 1
    → new.unsettled ≡ mid.unsettled + part y → (is_unsettled y ≡ true → IsInSpan new i) → ((j : ℕ) → 0 < mid.unsettled → IsInSpan mid j → IsInSpan new j) → ((n : ℕ) → mid.end ≤ n → i < n → new.end ≤ n)
    → IsSpanned (insert l i y) new
spanned_insert l i y old mid new w place few same before behind ends more there others end =
    let long = length-insert l i y place in
    let within = w.within in
    let count = w.count in
    let change : count_by is_unsettled (insert l i y) ≡ count_by is_unsettled l + part y = sum_by-insert part l i y in
    let last = end (length l + 1) (omega (arith, ends, within)) (omega (arith, place)) in
    let some : (j : ℕ) (s : Status) → slice_get l j ≡ Some s → is_unsettled s ≡ true → 0 < mid.unsettled = λ j s seen unsettled.
    (let c = counted is_unsettled l j s seen unsettled in omega (arith, c, count, same)) in
    record {
      few = omega (arith, long, few);
      within = omega (arith, last, long);
      count = omega (arith, count, change, same, more);
      held = at_insert (λ j s. is_unsettled s ≡ true → IsInSpan new j) l i y place
          (λ j s first seen unsettled. others j (some j s seen unsettled) (before j first (w.held j s seen unsettled)))
          there
          (λ j s past seen unsettled. others (suc j) (some j s seen unsettled) (subst (IsInSpan mid) (add-one j) (behind j past (w.held j s seen unsettled))));
    }

-- after one is taken out
pub spanned_remove : (l : List Status) (i : ℕ) (x : Status) (old mid new : Span) → IsSpanned l old → slice_get l i ≡ Some x
    → mid.unsettled + part x ≡ old.unsettled → ((j : ℕ) → (j ≡ i → ⊥) → IsInSpan old j → IsInSpan mid j) → mid.end ≤ old.end
    → new.unsettled ≡ mid.unsettled → ((j : ℕ) → j < i → IsInSpan mid j → IsInSpan new j) → ((j : ℕ) → i ≤ j → IsInSpan mid (j + 1) → IsInSpan new j) → ((n : ℕ) → mid.end ≤ n + 1 → i ≤ n → new.end ≤ n)
    → IsSpanned (remove l i) new
spanned_remove l i x old mid new w at less kept ends same before behind end =
    let here = slice_get_within l i x at in
    let long = length-remove l i here in
    let few = w.few in
    let within = w.within in
    let count = w.count in
    let change = count_remove is_unsettled l i x at in
    let last = end (length (remove l i)) (omega (arith, ends, within, long)) (omega (arith, here, long)) in
    record {
      few = omega (arith, long, few);
      within = last;
      count = omega (arith, count, change, less, same);
      held = at_remove (λ j s. is_unsettled s ≡ true → IsInSpan new j) l i
          (λ j s first seen unsettled. before j first (kept j (λ is. absurd (omega (arith, first, is))) (w.held j s seen unsettled)))
          (λ j s past seen unsettled. behind j past (subst (IsInSpan mid) (sym (add-one j)) (kept (suc j) (λ is. absurd (omega (arith, past, is))) (w.held (suc j) s seen unsettled))));
    }

-- where none is counted none is found
none_from : (l : List Status) (i n : ℕ) → ((j : ℕ) (s : Status) → i ≤ j → slice_get l j ≡ Some s → is_unsettled s ≡ true → ⊥) → position_from is_unsettled n (drop i l) ≡ None
none_from [] zero n none = refl
none_from [] (suc i) n none = refl
none_from (x ∷ l) zero n none = by_test (none_from l 0 (n + 1) (λ j s past seen passes. none (suc j) s (omega arith) seen passes)) (is_unsettled x) refl
  where
    by_test : position_from is_unsettled (n + 1) l ≡ None → (b : Bool) → is_unsettled x ≡ b → position_from is_unsettled n (x ∷ l) ≡ None
    by_test rest true is = absurd (none 0 x (omega arith) refl is)
    by_test rest false is = ap (λ b. cond b (Some n) (position_from is_unsettled (n + 1) l)) is ∙ rest
none_from (x ∷ l) (suc i) n none = none_from l i n (λ j s past seen passes. none (suc j) s (omega (arith, past)) seen passes)

pub none_counted : (l : List Status) (span : Span) (from : ℕ) → IsSpanned l span → span.unsettled ≡ 0 → first_unsettled l from ≡ None
none_counted l span from w empty =
    let count = w.count in
    none_from l from from (λ j s past seen passes. let c = counted is_unsettled l j s seen passes in absurd (omega (arith, c, count, empty)))

-- nor is any row unsettled
pub none_unsettled : (l : List Status) (span : Span) (i : ℕ) (s : Status) → IsSpanned l span → span.unsettled ≡ 0 → slice_get l i ≡ Some s → is_unsettled s ≡ true → ⊥
none_unsettled l span i s w empty seen passes =
    let count = w.count in
    let c = counted is_unsettled l i s seen passes in
    omega (arith, c, count, empty)

-- nor behind the span
pub none_past : (l : List Status) (span : Span) (from : ℕ) → IsSpanned l span → span.end ≤ from → first_unsettled l from ≡ None
none_past l span from w past = none_from l from from (λ j s behind seen passes. let h = w.held j s seen passes in let last = h.1 in absurd (omega (arith, last, behind, past)))

-- nor before it
skip_here : (l : List Status) (k n : ℕ) → ((j : ℕ) (s : Status) → j < n → slice_get l j ≡ Some s → is_unsettled s ≡ true → ⊥) → position_from is_unsettled (k + n) (drop n l) ≡ position_from is_unsettled k l
skip_here [] k zero none = refl
skip_here [] k (suc n) none = refl
skip_here (x ∷ l) k zero none = ap (λ m. position_from is_unsettled m (x ∷ l)) (add-zero k)
skip_here (x ∷ l) k (suc n) none =
    let same : k + suc n ≡ k + 1 + n = omega arith in
    ap (λ m. position_from is_unsettled m (drop n l)) same
    ∙ skip_here l (k + 1) n (λ j s within seen passes. none (suc j) s (omega (arith, within)) seen passes)
    ∙ by_test (is_unsettled x) refl (none 0 x (omega arith) refl)
  where
    by_test : (b : Bool) → is_unsettled x ≡ b → (is_unsettled x ≡ true → ⊥) → position_from is_unsettled (k + 1) l ≡ position_from is_unsettled k (x ∷ l)
    by_test true is not_here = absurd (not_here is)
    by_test false is not_here = sym (ap (λ b. cond b (Some k) (position_from is_unsettled (k + 1) l)) is)

none_of_none : (k m : ℕ) → position_from is_unsettled k (drop {A = Status} m []) ≡ None
none_of_none k zero = refl
none_of_none k (suc m) = refl

skip_from : (l : List Status) (i n m k : ℕ) → m ≡ i + n → ((j : ℕ) (s : Status) → i ≤ j → j < m → slice_get l j ≡ Some s → is_unsettled s ≡ true → ⊥) → position_from is_unsettled (k + n) (drop m l) ≡ position_from is_unsettled k (drop i l)
skip_from [] i n m k is none = none_of_none (k + n) m ∙ sym (none_of_none k i)
skip_from (x ∷ l) zero n m k is none =
    let same : m ≡ n = omega (arith, is) in
    ap (λ (o : ℕ). position_from is_unsettled (k + n) (drop o (x ∷ l))) same
    ∙ skip_here (x ∷ l) k n (λ j s within seen passes. none j s (omega arith) (omega (arith, within, same)) seen passes)
skip_from (x ∷ l) (suc i) n zero k is none = absurd (omega (arith, is))
skip_from (x ∷ l) (suc i) n (suc m) k is none = skip_from l i n m k (omega (arith, is)) (λ j s first last seen passes. none (suc j) s (omega (arith, first)) (omega (arith, last)) seen passes)

pub skipped : (l : List Status) (span : Span) (from start : ℕ) → IsSpanned l span → start ≡ max from span.start → first_unsettled l start ≡ first_unsettled l from
skipped l span from start w is =
    let same : start ≡ from + (span.start - from) = is ∙ omega arith in
    ap (first_unsettled l) same
    ∙ skip_from l from (span.start - from) (from + (span.start - from)) from refl (λ j s first last seen passes. let h = w.held j s seen passes in let low = h.0 in absurd (omega (arith, first, last, low)))
