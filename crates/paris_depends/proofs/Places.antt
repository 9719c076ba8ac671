-- The items of a list that pass a test, by their places.
use Rattle.std.proofs.Common.{◌≡◌, ℕ, zero, suc, ◌+◌, ◌<◌, ◌≤◌, List, [], ◌∷◌, length, take, Bool, true, false, cond, Option, Some, None, nat_eq, refl, sym, ap, ◌∙◌, arith, slice_get, subst}
use Rattle.std.proofs.lemmas.Bool.Decides.{nat_tests}
use Rattle.std.specs.Prelude.{nat_lt}
use Rattle.std.proofs.lemmas.Option.{slice_get-map}
use Rattle.std.specs.List.{filter, IsDistinct, AllByRecursion, position}
use Rattle.std.specs.Map.{keys_of}
use Rattle.std.specs.Option.{option_map}
use Rattle.paris_program.specs.Program.{place_of}
use Rattle.paris_program.proofs.CallerLemmas.{place_of-first}
use Rattle.paris_depends.specs.Places.{count_to, nth_place, at_place}

lt_zero : (n : ℕ) → nat_lt n 0 ≡ false
lt_zero n = grind (arith, nat_tests)

zero_lt : (n : ℕ) → nat_lt 0 (suc n) ≡ true
zero_lt n = grind (arith, nat_tests)

lt_suc : (m n : ℕ) → nat_lt (suc m) (suc n) ≡ nat_lt m n
lt_suc m n = grind (arith, nat_tests)

module _ {X : Type 0} (p : X → Bool) where
  -- an item that passes stands before a place where fewer items that pass stand before it than before the place
  pub place_before : (xs : List X) (c i : ℕ) → i ≤ length xs → nat_lt (nth_place p xs c) i ≡ nat_lt c (count_to p xs i)
  place_before [] c i within = let none : i ≡ 0 = omega arith in rw none (lt_zero 0 ∙ sym (lt_zero c))
  place_before (x ∷ xs) c zero within = lt_zero (nth_place p (x ∷ xs) c) ∙ sym (lt_zero c)
  place_before (x ∷ xs) zero (suc i) within = by_test (p x) (place_before xs zero i (omega arith))
    where
      by_test : (b : Bool) → nat_lt (nth_place p xs zero) i ≡ nat_lt 0 (count_to p xs i) → nat_lt (cond b 0 (suc (nth_place p xs zero))) (suc i) ≡ nat_lt 0 (length (cond b (x ∷ filter p (take i xs)) (filter p (take i xs))))
      by_test true e = zero_lt i ∙ sym (zero_lt (count_to p xs i))
      by_test false e = lt_suc (nth_place p xs zero) i ∙ e
  place_before (x ∷ xs) (suc c) (suc i) within = by_test (p x) (place_before xs c i (omega arith)) (place_before xs (suc c) i (omega arith))
    where
      by_test : (b : Bool) → nat_lt (nth_place p xs c) i ≡ nat_lt c (count_to p xs i) → nat_lt (nth_place p xs (suc c)) i ≡ nat_lt (suc c) (count_to p xs i)
          → nat_lt (cond b (suc (nth_place p xs c)) (suc (nth_place p xs (suc c)))) (suc i) ≡ nat_lt (suc c) (length (cond b (x ∷ filter p (take i xs)) (filter p (take i xs))))
      by_test true e f = lt_suc (nth_place p xs c) i ∙ e ∙ sym (lt_suc c (count_to p xs i))
      by_test false e f = lt_suc (nth_place p xs (suc c)) i ∙ f

  -- the same, as facts on numbers
  pub place_count : (xs : List X) (c i : ℕ) → i ≤ length xs → (nth_place p xs c < i → c < count_to p xs i) × (i ≤ nth_place p xs c → count_to p xs i ≤ c)
  place_count xs c i within = by_tests (nth_place p xs c) (count_to p xs i) (place_before xs c i within)
    where
      by_tests : (j n : ℕ) → nat_lt j i ≡ nat_lt c n → (j < i → c < n) × (i ≤ j → n ≤ c)
      by_tests j n same = (to_left j n same, to_right j n same)
        where
          to_left : (j n : ℕ) → nat_lt j i ≡ nat_lt c n → j < i → c < n
          to_left j n same h = grind (arith, nat_tests)

          to_right : (j n : ℕ) → nat_lt j i ≡ nat_lt c n → i ≤ j → n ≤ c
          to_right j n same h = grind (arith, nat_tests)

  -- an item that passes stands at its place
  pub item_at_place : (xs : List X) (c : ℕ) (x : X) → slice_get (filter p xs) c ≡ Some x → slice_get xs (nth_place p xs c) ≡ Some x
  item_at_place [] c x at = absurd (cc)
  item_at_place (y ∷ ys) zero x at = by_test (p y) (item_at_place ys zero x) at
    where
      by_test : (b : Bool) → (slice_get (filter p ys) zero ≡ Some x → slice_get ys (nth_place p ys zero) ≡ Some x) → slice_get (cond b (y ∷ filter p ys) (filter p ys)) zero ≡ Some x → slice_get (y ∷ ys) (cond b 0 (suc (nth_place p ys zero))) ≡ Some x
      by_test true later e = e
      by_test false later e = later e
  item_at_place (y ∷ ys) (suc c) x at = by_test (p y) (item_at_place ys c x) (item_at_place ys (suc c) x) at
    where
      by_test : (b : Bool) → (slice_get (filter p ys) c ≡ Some x → slice_get ys (nth_place p ys c) ≡ Some x) → (slice_get (filter p ys) (suc c) ≡ Some x → slice_get ys (nth_place p ys (suc c)) ≡ Some x)
          → slice_get (cond b (y ∷ filter p ys) (filter p ys)) (suc c) ≡ Some x → slice_get (y ∷ ys) (cond b (suc (nth_place p ys c)) (suc (nth_place p ys (suc c)))) ≡ Some x
      by_test true later more e = later e
      by_test false later more e = more e

  -- no more of the first items pass than there are, nor than pass of all
  pub count_within : (xs : List X) (i : ℕ) → count_to p xs i ≤ length (filter p xs)
  count_within [] zero = omega arith
  count_within [] (suc i) = omega arith
  count_within (x ∷ xs) zero = omega arith
  count_within (x ∷ xs) (suc i) = by_test (p x) (count_within xs i)
    where
      by_test : (b : Bool) → count_to p xs i ≤ length (filter p xs) → length (cond b (x ∷ filter p (take i xs)) (filter p (take i xs))) ≤ length (cond b (x ∷ filter p xs) (filter p xs))
      by_test true e = omega arith
      by_test false e = e

  pub filter_no_longer : (xs : List X) → length (filter p xs) ≤ length xs
  filter_no_longer [] = omega arith
  filter_no_longer (x ∷ xs) = by_test (p x) (filter_no_longer xs)
    where
      by_test : (b : Bool) → length (filter p xs) ≤ length xs → length (cond b (x ∷ filter p xs) (filter p xs)) ≤ suc (length xs)
      by_test true e = omega arith
      by_test false e = omega arith

  -- the first items that pass are the first of those that pass
  pub take_passing : (xs : List X) (i : ℕ) → filter p (take i xs) ≡ take (count_to p xs i) (filter p xs)
  take_passing [] zero = refl
  take_passing [] (suc i) = refl
  take_passing (x ∷ xs) zero = refl
  take_passing (x ∷ xs) (suc i) = by_test (p x) (take_passing xs i)
    where
      by_test : (b : Bool) → filter p (take i xs) ≡ take (count_to p xs i) (filter p xs) → cond b (x ∷ filter p (take i xs)) (filter p (take i xs)) ≡ take (length (cond b (x ∷ filter p (take i xs)) (filter p (take i xs)))) (cond b (x ∷ filter p xs) (filter p xs))
      by_test true e = ap (λ l. x ∷ l) e
      by_test false e = e

-- a number is equal to itself, and unequal both ways
pub nat_eq-self : (n : ℕ) → nat_eq n n ≡ true
nat_eq-self n = grind (arith, nat_tests)

nat_eq-flip : (m n : ℕ) → nat_eq m n ≡ false → nat_eq n m ≡ false
nat_eq-flip m n e = grind (arith, nat_tests)

module _ {T : Type 0} where
  pub apart_from : (first : ℕ) (rows : List (ℕ × T)) (j : ℕ) (r : ℕ × T) → AllByRecursion (λ i. nat_eq first i ≡ false) (keys_of rows) → slice_get rows j ≡ Some r → nat_eq r.0 first ≡ false
  apart_from first [] j r apart at = absurd (cc)
  apart_from first (x ∷ rows) zero r apart at = let same : x ≡ r = cc in nat_eq-flip first r.0 (ap (λ (y : ℕ × T). nat_eq first y.0) (sym same) ∙ apart.0)
  apart_from first (x ∷ rows) (suc j) r apart at = apart_from first rows j r apart.1 at

  -- a row among rows with ids of their own is found by its id
  pub found_at : (rows : List (ℕ × T)) (j : ℕ) (r : ℕ × T) → IsDistinct nat_eq (keys_of rows) → slice_get rows j ≡ Some r → place_of rows r.0 ≡ Some j
  unfolding IsDistinct
  found_at [] j r distinct at = absurd (cc)
  found_at (x ∷ rows) zero r distinct at =
      let same : x ≡ r = cc in
      place_of-first x rows r.0 ∙ ap (λ b. cond b (Some 0) (option_map suc (place_of rows r.0))) (ap (λ (y : ℕ × T). nat_eq r.0 y.0) same ∙ nat_eq-self r.0)
  found_at (x ∷ rows) (suc j) r distinct at =
      place_of-first x rows r.0 ∙ ap (λ b. cond b (Some 0) (option_map suc (place_of rows r.0))) (apart_from x.0 rows j r distinct.0 at) ∙ ap (option_map suc) (found_at rows j r distinct.1 at)

  -- an entry of the list of those that pass is found at its place
  pub entry_found : (p : ℕ × T → Bool) (rows : List (ℕ × T)) (c id : ℕ) → IsDistinct nat_eq (keys_of rows) → slice_get (keys_of (filter p rows)) c ≡ Some id → place_of rows id ≡ Some (nth_place p rows c)
  entry_found p rows c id distinct at = by_entry (slice_get (filter p rows) c) refl (sym (slice_get-map (λ (e : ℕ × T). e.0) (filter p rows) c) ∙ at)
    where
      by_entry : (o : Option (ℕ × T)) → slice_get (filter p rows) c ≡ o → option_map (λ (e : ℕ × T). e.0) o ≡ Some id → place_of rows id ≡ Some (nth_place p rows c)
      by_entry None e h = absurd (cc)
      by_entry (Some r) e h =
          let same : r.0 ≡ id = cc in
          ap (place_of rows) (sym same) ∙ found_at rows (nth_place p rows c) r distinct (item_at_place p rows c r e)

-- the same, where the ids of other rows are those of these
pub probed : {S T : Type 0} (others : List (ℕ × S)) (p : ℕ × T → Bool) (rows : List (ℕ × T)) (c id : ℕ) → keys_of others ≡ keys_of rows → IsDistinct nat_eq (keys_of others) → slice_get (keys_of (filter p rows)) c ≡ Some id → place_of others id ≡ Some (nth_place p rows c)
probed others p rows c id same distinct at =
    ap (λ ids. position (nat_eq id) ids) same ∙ entry_found p rows c id (let P : List ℕ → Type 0 = IsDistinct nat_eq in subst P same distinct) at

-- as many ids as rows
pub length-ids : {T : Type 0} (rows : List (ℕ × T)) → length (keys_of rows) ≡ length rows
length-ids [] = refl
length-ids (r ∷ rows) = ap suc (length-ids rows)

pub same_length : {S T : Type 0} (others : List (ℕ × S)) (rows : List (ℕ × T)) → keys_of others ≡ keys_of rows → length others ≡ length rows
same_length others rows same = sym (length-ids others) ∙ ap length same ∙ length-ids rows

-- no more entries than rows
pub entries_few : {S T : Type 0} (others : List (ℕ × S)) (p : ℕ × T → Bool) (rows : List (ℕ × T)) → keys_of others ≡ keys_of rows → length (keys_of (filter p rows)) ≤ length others
entries_few others p rows same = omega (arith, length-ids (filter p rows), same_length others rows same, filter_no_longer p rows)

none_past : {X : Type 0} (xs : List X) (i : ℕ) → slice_get xs i ≡ None → length xs ≤ i
none_past [] i none = omega arith
none_past (x ∷ xs) zero none = absurd (cc)
none_past (x ∷ xs) (suc i) none = let rest = none_past xs i none in omega (arith, rest)

module _ {X : Type 0} (p : X → Bool) where
  -- past those that pass there is no place
  pub place_past : (xs : List X) (c : ℕ) → length (filter p xs) ≤ c → nth_place p xs c ≡ length xs
  place_past [] c past = refl
  place_past (x ∷ xs) zero past = by_test (p x) (place_past xs zero) past
    where
      by_test : (b : Bool) → (length (filter p xs) ≤ 0 → nth_place p xs zero ≡ length xs) → length (cond b (x ∷ filter p xs) (filter p xs)) ≤ 0 → cond b 0 (suc (nth_place p xs zero)) ≡ suc (length xs)
      by_test true later few = absurd (omega arith)
      by_test false later few = ap suc (later few)
  place_past (x ∷ xs) (suc c) past = by_test (p x) (place_past xs c) (place_past xs (suc c)) past
    where
      by_test : (b : Bool) → (length (filter p xs) ≤ c → nth_place p xs c ≡ length xs) → (length (filter p xs) ≤ suc c → nth_place p xs (suc c) ≡ length xs) → length (cond b (x ∷ filter p xs) (filter p xs)) ≤ suc c
          → cond b (suc (nth_place p xs c)) (suc (nth_place p xs (suc c))) ≡ suc (length xs)
      by_test true later more few = ap suc (later (omega arith))
      by_test false later more few = ap suc (more few)

  -- no place is past the end
  pub place_within : (xs : List X) (c : ℕ) → nth_place p xs c ≤ length xs
  place_within [] c = omega arith
  place_within (x ∷ xs) zero = by_test (p x) (place_within xs zero)
    where
      by_test : (b : Bool) → nth_place p xs zero ≤ length xs → cond b 0 (suc (nth_place p xs zero)) ≤ suc (length xs)
      by_test true e = omega arith
      by_test false e = omega arith
  place_within (x ∷ xs) (suc c) = by_test (p x) (place_within xs c) (place_within xs (suc c))
    where
      by_test : (b : Bool) → nth_place p xs c ≤ length xs → nth_place p xs (suc c) ≤ length xs → cond b (suc (nth_place p xs c)) (suc (nth_place p xs (suc c))) ≤ suc (length xs)
      by_test true e f = omega arith
      by_test false e f = omega arith

  -- at a place before the end the item passes, and as many others pass before it
  pub place_passes : (xs : List X) (c : ℕ) → nth_place p xs c < length xs → (at_place p xs (nth_place p xs c) ≡ true) × (count_to p xs (nth_place p xs c) ≡ c)
  place_passes [] c within = absurd (omega arith)
  place_passes (x ∷ xs) zero within = by_test (p x) refl (place_passes xs zero) within
    where
      by_test : (b : Bool) → p x ≡ b → (nth_place p xs zero < length xs → (at_place p xs (nth_place p xs zero) ≡ true) × (count_to p xs (nth_place p xs zero) ≡ zero)) → cond b 0 (suc (nth_place p xs zero)) < suc (length xs)
          → (at_place p (x ∷ xs) (cond b 0 (suc (nth_place p xs zero))) ≡ true) × (count_to p (x ∷ xs) (cond b 0 (suc (nth_place p xs zero))) ≡ zero)
      by_test true e later in_range = (e, refl)
      by_test false e later in_range = let rest = later (omega arith) in (rest.0, ap (λ (b : Bool). length (cond b (x ∷ filter p (take (nth_place p xs zero) xs)) (filter p (take (nth_place p xs zero) xs)))) e ∙ rest.1)
  place_passes (x ∷ xs) (suc c) within = by_test (p x) refl (place_passes xs c) (place_passes xs (suc c)) within
    where
      by_test : (b : Bool) → p x ≡ b → (nth_place p xs c < length xs → (at_place p xs (nth_place p xs c) ≡ true) × (count_to p xs (nth_place p xs c) ≡ c))
          → (nth_place p xs (suc c) < length xs → (at_place p xs (nth_place p xs (suc c)) ≡ true) × (count_to p xs (nth_place p xs (suc c)) ≡ suc c))
          → cond b (suc (nth_place p xs c)) (suc (nth_place p xs (suc c))) < suc (length xs)
          → (at_place p (x ∷ xs) (cond b (suc (nth_place p xs c)) (suc (nth_place p xs (suc c)))) ≡ true) × (count_to p (x ∷ xs) (cond b (suc (nth_place p xs c)) (suc (nth_place p xs (suc c)))) ≡ suc c)
      by_test true e later more in_range = let rest = later (omega arith) in (rest.0, ap (λ (b : Bool). length (cond b (x ∷ filter p (take (nth_place p xs c) xs)) (filter p (take (nth_place p xs c) xs)))) e ∙ ap suc rest.1)
      by_test false e later more in_range = let rest = more (omega arith) in (rest.0, ap (λ (b : Bool). length (cond b (x ∷ filter p (take (nth_place p xs (suc c)) xs)) (filter p (take (nth_place p xs (suc c)) xs)))) e ∙ rest.1)

  -- an item that passes is one more
  pub count-more : (xs : List X) (j : ℕ) → at_place p xs j ≡ true → count_to p xs (j + 1) ≡ count_to p xs j + 1
  count-more xs j passes = ap (count_to p xs) (let e : j + 1 ≡ suc j = omega arith in e) ∙ count_suc xs j passes
    where
      count_suc : (xs : List X) (j : ℕ) → at_place p xs j ≡ true → count_to p xs (suc j) ≡ count_to p xs j + 1
      count_suc [] j passes = absurd (cc)
      count_suc (x ∷ xs) zero passes = ap (λ (b : Bool). length (cond b (x ∷ []) [])) passes
      count_suc (x ∷ xs) (suc j) passes = by_test (p x) (count_suc xs j passes)
        where
          by_test : (b : Bool) → count_to p xs (suc j) ≡ count_to p xs j + 1 → length (cond b (x ∷ filter p (take (suc j) xs)) (filter p (take (suc j) xs))) ≡ length (cond b (x ∷ filter p (take j xs)) (filter p (take j xs))) + 1
          by_test true e = omega (arith, e)
          by_test false e = e

  -- it stands before the end
  pub passes_within : (xs : List X) (j : ℕ) → at_place p xs j ≡ true → j < length xs
  passes_within [] j passes = absurd (cc)
  passes_within (x ∷ xs) zero passes = omega arith
  passes_within (x ∷ xs) (suc j) passes = let rest = passes_within xs j passes in omega (arith, rest)

  pub count-later : (xs : List X) (i j : ℕ) → i ≤ j → count_to p xs i ≤ count_to p xs j
  count-later [] zero j up = omega arith
  count-later [] (suc i) zero up = absurd (omega arith)
  count-later [] (suc i) (suc j) up = omega arith
  count-later (x ∷ xs) zero j up = omega arith
  count-later (x ∷ xs) (suc i) zero up = absurd (omega arith)
  count-later (x ∷ xs) (suc i) (suc j) up = by_test (p x) (count-later xs i j (omega arith))
    where
      by_test : (b : Bool) → count_to p xs i ≤ count_to p xs j → length (cond b (x ∷ filter p (take i xs)) (filter p (take i xs))) ≤ length (cond b (x ∷ filter p (take j xs)) (filter p (take j xs)))
      by_test true e = omega arith
      by_test false e = e

  -- from a place to the next that passes none passes
  pub none_between : (xs : List X) (c i j : ℕ) → count_to p xs i ≡ c → i ≤ j → j < nth_place p xs c → at_place p xs j ≡ false
  none_between xs c i j count up before = by_test (at_place p xs j) refl
    where
      by_test : (b : Bool) → at_place p xs j ≡ b → b ≡ false
      by_test true e = absurd (
          let in_range = passes_within xs j e in
          let one = count-more xs j e in
          let later = count-later xs i j up in
          let not_past = place_count p xs c (j + 1) (omega (arith, in_range)) in
          let back : j + 1 ≤ nth_place p xs c = omega arith in
          let fewer = not_past.1 back in
          omega (arith, one, later, fewer, count)
          )
      by_test false e = refl

  -- the next place that passes stands no earlier
  pub place_from : (xs : List X) (i : ℕ) → i ≤ length xs → i ≤ nth_place p xs (count_to p xs i)
  place_from xs i within =
      let tells = place_before p xs (count_to p xs i) i within in
      not_before (nth_place p xs (count_to p xs i)) (count_to p xs i) tells
    where
      not_before : (j n : ℕ) → nat_lt j i ≡ nat_lt n n → i ≤ j
      not_before j n same = grind (arith, nat_tests)

-- where the list of those that pass has no entry, there is no place
pub no_entry : {T : Type 0} (p : ℕ × T → Bool) (rows : List (ℕ × T)) (c : ℕ) → slice_get (keys_of (filter p rows)) c ≡ None → nth_place p rows c ≡ length rows
no_entry p rows c none = place_past p rows c (let past = none_past (keys_of (filter p rows)) c none in omega (arith, past, length-ids (filter p rows)))
