-- Reaches find the rows that a sweep lists.
use Rattle.std.proofs.Common.{◌≡◌, ℕ, zero, suc, ◌+◌, ◌<◌, ◌≤◌, ◌⊎◌, inl, inr, List, [], ◌∷◌, ◌++◌, length, map, Bool, true, false, cond, Some, refl, sym, ap, ◌∙◌, arith, slice_get, nat_eq, subst}
use Rattle.std.proofs.lemmas.Bool.Decides.{nat_tests}
use Rattle.std.specs.Prelude.{nat_lt, nat_le, ◌&&◌, ◌||◌}
use Rattle.std.specs.List.{list_any, AllByRecursion, filter}
use Rattle.paris_names.specs.declared.keys.Key.{Key}
use Rattle.paris_names.specs.Keys.{has_key, key_eq}
use Rattle.paris_names.proofs.KeyLists.{key_eq-flip}
use Rattle.paris_depends.specs.Index.{Footprint, writes_key, reads_key}
use Rattle.paris_depends.specs.Places.{count_to, nth_place, at_place}
use Rattle.paris_depends.specs.Reaches.{never, hit_at, last_from, reach_at, moved, moved_past, open_at, IsReach}
use Rattle.paris_depends.specs.declared.reaches.Reach.{Reach}
use Rattle.paris_depends.proofs.Places.{count-more, place_passes, place_within, place_from, none_between, passes_within}

-- tests of all of a list
pub all_map : {X Y : Type 0} (P : Y → Type 0) (f : X → Y) → ((x : X) → P (f x)) → (xs : List X) → AllByRecursion P (map f xs)
all_map P f h [] = tt
all_map P f h (x ∷ xs) = (h x, all_map P f h xs)

pub all_mapped : {X : Type 0} (P Q : X → Type 0) (f : X → X) → ((x : X) → P x → Q (f x)) → (xs : List X) → AllByRecursion P xs → AllByRecursion Q (map f xs)
all_mapped P Q f h [] all = tt
all_mapped P Q f h (x ∷ xs) all = (h x all.0, all_mapped P Q f h xs all.1)

pub all_append : {X : Type 0} (P : X → Type 0) (xs ys : List X) → AllByRecursion P xs → AllByRecursion P ys → AllByRecursion P (xs ++ ys)
all_append P [] ys h k = k
all_append P (x ∷ xs) ys h k = (h.0, all_append P xs ys h.1 k)

pub all_kept : {X : Type 0} (test : X → Bool) (P : X → Type 0) (xs : List X) → AllByRecursion P xs → AllByRecursion P (filter test xs)
all_kept test P [] all = tt
all_kept test P (x ∷ xs) all = by_test (test x) (all_kept test P xs all.1)
  where
    by_test : (b : Bool) → AllByRecursion P (filter test xs) → AllByRecursion P (cond b (x ∷ filter test xs) (filter test xs))
    by_test true rest = (all.0, rest)
    by_test false rest = rest

pub all_both : {X : Type 0} (P Q R : X → Type 0) → ((x : X) → P x → Q x → R x) → (xs : List X) → AllByRecursion P xs → AllByRecursion Q xs → AllByRecursion R xs
all_both P Q R h [] p q = tt
all_both P Q R h (x ∷ xs) p q = (h x p.0 q.0, all_both P Q R h xs p.1 q.1)

pub any_append : {X : Type 0} (t : X → Bool) (xs ys : List X) → list_any t (xs ++ ys) ≡ (list_any t xs || list_any t ys)
any_append t [] ys = refl
any_append t (x ∷ xs) ys = ap (λ b. t x || b) (any_append t xs ys) ∙ assoc (t x) (list_any t xs) (list_any t ys)
  where
    assoc : (a b c : Bool) → (a || (b || c)) ≡ ((a || b) || c)
    assoc true b c = refl
    assoc false b c = refl

any_either : {X : Type 0} (t u : X → Bool) (xs : List X) → list_any (λ x. t x || u x) xs ≡ (list_any t xs || list_any u xs)
any_either t u [] = refl
any_either t u (x ∷ xs) = ap (λ b. (t x || u x) || b) (any_either t u xs) ∙ swap (t x) (u x) (list_any t xs) (list_any u xs)
  where
    swap : (a b c d : Bool) → ((a || b) || (c || d)) ≡ ((a || c) || (b || d))
    swap true b c d = refl
    swap false true true d = refl
    swap false true false d = refl
    swap false false true d = refl
    swap false false false d = refl

any_never : {X : Type 0} (xs : List X) → list_any (λ x. false) xs ≡ false
any_never [] = refl
any_never (x ∷ xs) = any_never xs

any_key : (ks : List Key) (j : Key) (b : Bool) → list_any (λ k. key_eq k j && b) ks ≡ (has_key ks j && b)
any_key [] j b = refl
any_key (k ∷ ks) j b = ap (λ c. (key_eq k j && b) || c) (any_key ks j b) ∙ ap (λ c. (c && b) || (has_key ks j && b)) (key_eq-flip k j) ∙ by_tests (key_eq j k) (has_key ks j) b
  where
    by_tests : (a c b : Bool) → ((a && b) || (c && b)) ≡ ((a || c) && b)
    by_tests true true true = refl
    by_tests true true false = refl
    by_tests true false true = refl
    by_tests true false false = refl
    by_tests false c b = refl

-- whether a row reads a key that is in reach
hit_by : List Reach → ℕ → List Key → Bool
hit_by reaches i ks = list_any (λ r. has_key ks r.key && nat_le i r.last) reaches

pub touched_by_reach : (reaches : List Reach) (i : ℕ) (ks : List Key) → list_any (open_at reaches i) ks ≡ list_any (λ r. has_key ks r.key && nat_le i r.last) reaches
touched_by_reach [] i ks = any_never ks
touched_by_reach (r ∷ reaches) i ks =
    any_either (λ k. key_eq k r.key && nat_le i r.last) (open_at reaches i) ks
    ∙ ap (λ b. b || list_any (open_at reaches i) ks) (any_key ks r.key (nat_le i r.last))
    ∙ ap (λ b. (has_key ks r.key && nat_le i r.last) || b) (touched_by_reach reaches i ks)

pub at_row : {X : Type 0} (p : X → Bool) (xs : List X) (i : ℕ) (x : X) → slice_get xs i ≡ Some x → at_place p xs i ≡ p x
at_row p [] i x at = absurd (cc)
at_row p (y ∷ xs) zero x at = let same : y ≡ x = cc in ap p same
at_row p (y ∷ xs) (suc i) x at = at_row p xs i x at

module _ (rows : List (ℕ × Footprint)) where
  -- a reach stays known up to its hit
  pub reach-later : (i i' : ℕ) (r : Reach) → IsReach rows i r → i ≤ i' → i' ≤ r.hit → IsReach rows i' r
  reach-later i i' r h up before = record {
    behind = before;
    within = h.within;
    clear = λ j from below. h.clear j (omega arith) below;
    ends = λ from in_range. h.ends (omega arith) in_range;
    quiet = λ j from to below. h.quiet j (omega arith) to below;
    reads = h.reads;
    counted = h.counted;
    reached = h.reached;
  }

  hit_cases : (at last : ℕ) → ((hit_at rows at last ≡ at) × (at < length rows) × (at ≤ last)) ⊎ ((hit_at rows at last ≡ never) × ((at < length rows) → last < at))
  hit_cases at last = by_test (nat_lt at (length rows)) (nat_le at last) refl refl
    where
      is_lt : nat_lt at (length rows) ≡ true → at < length rows
      is_lt e = grind (arith, nat_tests)

      not_lt : nat_lt at (length rows) ≡ false → length rows ≤ at
      not_lt e = grind (arith, nat_tests)

      is_le : nat_le at last ≡ true → at ≤ last
      is_le e = grind (arith, nat_tests)

      not_le : nat_le at last ≡ false → last < at
      not_le e = grind (arith, nat_tests)

      by_test : (a b : Bool) → nat_lt at (length rows) ≡ a → nat_le at last ≡ b → ((cond (a && b) at never ≡ at) × (at < length rows) × (at ≤ last)) ⊎ ((cond (a && b) at never ≡ never) × ((at < length rows) → last < at))
      by_test true true e f = inl (refl, is_lt e, is_le f)
      by_test true false e f = inr (refl, λ h. not_le f)
      by_test false b e f = inr (refl, λ h. absurd (let g = not_lt e in omega arith))

  -- a reach whose hit is the next reader
  reach_of : (k : Key) (i c last : ℕ) → i ≤ length rows → length rows ≤ never → count_to (reads_key k) rows i ≡ c → last ≤ length rows
      → ((j : ℕ) → i ≤ j → j < last → at_place (writes_key k) rows j ≡ false) → (i ≤ last → last < length rows → at_place (writes_key k) rows last ≡ true)
      → IsReach rows i (record { key = k; next = c; hit = hit_at rows (nth_place (reads_key k) rows c) last; last = last })
  reach_of k i c last within short count low clear ends = by_case (hit_cases (nth_place (reads_key k) rows c) last)
    where
      at : ℕ
      at = nth_place (reads_key k) rows c

      from_here : i ≤ nth_place (reads_key k) rows c
      from_here = let P : ℕ → Type 0 = λ n. i ≤ nth_place (reads_key k) rows n in subst P count (place_from (reads_key k) rows i within)

      by_case : ((hit_at rows (nth_place (reads_key k) rows c) last ≡ nth_place (reads_key k) rows c) × (nth_place (reads_key k) rows c < length rows) × (nth_place (reads_key k) rows c ≤ last))
          ⊎ ((hit_at rows (nth_place (reads_key k) rows c) last ≡ never) × ((nth_place (reads_key k) rows c < length rows) → last < nth_place (reads_key k) rows c))
          → IsReach rows i (record { key = k; next = c; hit = hit_at rows (nth_place (reads_key k) rows c) last; last = last })
      by_case (inl h) = let passes = place_passes (reads_key k) rows c h.1 in let start : i ≤ nth_place (reads_key k) rows c = from_here in record {
        behind = omega (arith, h.0);
        within = low;
        clear = clear;
        ends = ends;
        quiet = λ j from to below. none_between (reads_key k) rows c i j count from (omega (arith, h.0));
        reads = λ in_range. let P : ℕ → Type 0 = λ n. at_place (reads_key k) rows n ≡ true in subst P (sym h.0) passes.0;
        counted = λ in_range. let P : ℕ → Type 0 = λ n. count_to (reads_key k) rows n ≡ c in subst P (sym h.0) passes.1;
        reached = λ in_range. omega (arith, h.0, h.2);
      }
      by_case (inr h) = record {
        behind = omega (arith, h.0);
        within = low;
        clear = clear;
        ends = ends;
        quiet = λ j from to below. by_place j from to (at_place (reads_key k) rows j) refl;
        reads = λ in_range. absurd (omega (arith, h.0));
        counted = λ in_range. absurd (omega (arith, h.0));
        reached = λ in_range. absurd (omega (arith, h.0));
      }
        where
          by_place : (j : ℕ) → i ≤ j → j ≤ last → (b : Bool) → at_place (reads_key k) rows j ≡ b → b ≡ false
          by_place j from to false e = refl
          by_place j from to true e = absurd (by_order (le_cases j (nth_place (reads_key k) rows c)))
            where
              le_cases : (m n : ℕ) → (m < n) ⊎ (n ≤ m)
              le_cases m n = grind (arith, nat_tests)

              by_order : (j < nth_place (reads_key k) rows c) ⊎ (nth_place (reads_key k) rows c ≤ j) → ⊥
              by_order (inl lt) = let no = none_between (reads_key k) rows c i j count from lt in cc (no, e)
              by_order (inr le) = let in_range = passes_within (reads_key k) rows j e in let past = h.1 (omega arith) in omega arith

  -- how far a key reaches that changes at a place
  pub reach-new : (k : Key) (i : ℕ) → i ≤ length rows → length rows ≤ never → IsReach rows i (reach_at rows k i)
  reach-new k i within short =
      let w : ℕ = count_to (writes_key k) rows i in
      reach_of k i (count_to (reads_key k) rows i) (last_from rows k i) within short refl (place_within (writes_key k) rows w)
      (λ j from below. none_between (writes_key k) rows w i j refl from below)
      (λ from in_range. (place_passes (writes_key k) rows w in_range).0)

  -- past the row at a place
  pub reach-past : (i : ℕ) (r : Reach) → i < length rows → length rows ≤ never → IsReach rows i r → IsReach rows (i + 1) (moved_past rows i r)
  reach-past i r within short h = by_test (nat_eq r.hit i) refl
    where
      is_eq : nat_eq r.hit i ≡ true → r.hit ≡ i
      is_eq e = grind (arith, nat_tests)

      not_eq : nat_eq r.hit i ≡ false → (r.hit ≡ i → ⊥)
      not_eq e = grind (arith, nat_tests)

      by_test : (b : Bool) → nat_eq r.hit i ≡ b → IsReach rows (i + 1) (cond b (moved rows r) r)
      by_test true e =
          let here : r.hit ≡ i = is_eq e in
          let in_range : r.hit < length rows = omega arith in
          let one = count-more (reads_key r.key) rows r.hit (h.reads in_range) in
          let count : count_to (reads_key r.key) rows (i + 1) ≡ r.next + 1 = ap (λ n. count_to (reads_key r.key) rows (n + 1)) (sym here) ∙ one ∙ ap (λ n. n + 1) (h.counted in_range) in
          reach_of r.key (i + 1) (r.next + 1) r.last (omega arith) short count h.within
          (λ j from below. h.clear j (omega arith) below)
          (λ from in_rows. h.ends (omega arith) in_rows)
      by_test false e = let other = not_eq e in let behind = h.behind in reach-later i (i + 1) r h (omega arith) (grind arith)
