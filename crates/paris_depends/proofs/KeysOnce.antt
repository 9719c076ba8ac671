-- A plan writes each key once, and reads each once.
use Rattle.std.proofs.Common.{◌≡◌, List, [], ◌∷◌, Bool, true, false, cond, refl, ap, ◌∙◌, arith, ℕ}
use Rattle.std.proofs.lemmas.Bool.Decides.{nat_tests}
use Rattle.std.specs.Prelude.{fold, nat_lt}
use Rattle.std.specs.List.{AllByRecursion, IsDistinct}
use Rattle.paris_names.specs.declared.keys.Key.{Key}
use Rattle.paris_names.specs.declared.keys.Key.TheVariants.{Field, Flag}
use Rattle.paris_names.specs.Keys.{flag_place, key_eq, key_before, with_key, in_order}
use Rattle.paris_names.proofs.KeyLists.{key_eq-true, key_eq-flip}
use Rattle.paris_model.specs.Instructions.{Plan, read_keys, reads, target_keys, writes}

lt_trans : (l m n : ℕ) → nat_lt l m ≡ true → nat_lt m n ≡ true → nat_lt l n ≡ true
lt_trans l m n e f = grind (arith, nat_tests)

lt_flip : (m n : ℕ) → nat_lt m n ≡ true → nat_lt n m ≡ false
lt_flip m n e = grind (arith, nat_tests)

before-trans : (i j k : Key) → key_before i j ≡ true → key_before j k ≡ true → key_before i k ≡ true
before-trans (Field f) (Field g) (Field h) e r = lt_trans f g h e r
before-trans (Field f) j (Flag u c) e r = refl
before-trans (Field f) (Flag t b) (Field h) e r = absurd (cc)
before-trans (Flag s a) (Field g) k e r = absurd (cc)
before-trans (Flag s a) (Flag t b) (Field h) e r = absurd (cc)
before-trans (Flag s a) (Flag t b) (Flag u c) e r = lt_trans (flag_place a) (flag_place b) (flag_place c) e r

before-flip : (j k : Key) → key_before j k ≡ true → key_before k j ≡ false
before-flip (Field f) (Field g) e = lt_flip f g e
before-flip (Field f) (Flag t b) e = refl
before-flip (Flag s a) (Field g) e = absurd (cc)
before-flip (Flag s a) (Flag t b) e = lt_flip (flag_place a) (flag_place b) e

-- no key stands behind one that it comes before
abbrev AreInOrder : List Key → Type 0
AreInOrder keys = IsDistinct (λ j k. key_before k j) keys

all-with_key : (P : Key → Type 0) (k : Key) (js : List Key) → P k → AllByRecursion P js → AllByRecursion P (with_key k js)
all-with_key P k [] here all = (here, tt)
all-with_key P k (j ∷ js) here all = by_tests (key_eq k j) (key_before k j) (all-with_key P k js here all.1)
  where
    by_tests : (a b : Bool) → AllByRecursion P (with_key k js) → AllByRecursion P (cond a (j ∷ js) (cond b (k ∷ j ∷ js) (j ∷ with_key k js)))
    by_tests true b later = all
    by_tests false true later = (here, all)
    by_tests false false later = (all.0, later)

all-other : (P Q : Key → Type 0) → ((k : Key) → P k → Q k) → (js : List Key) → AllByRecursion P js → AllByRecursion Q js
all-other P Q f [] all = tt
all-other P Q f (j ∷ js) all = (f j all.0, all-other P Q f js all.1)

module _ (k j : Key) (before : key_before k j ≡ true) where
  -- a key comes before those that another doesn't come behind
  not_before : (i : Key) → key_before i j ≡ false → key_before i k ≡ false
  not_before i other = by_test (key_before i k) refl
    where
      by_test : (b : Bool) → key_before i k ≡ b → b ≡ false
      by_test true e = let through = before-trans i k j e before in cc
      by_test false e = refl

  not_same : (i : Key) → key_before i j ≡ false → key_eq k i ≡ false
  not_same i other = by_test (key_eq k i) refl
    where
      by_test : (b : Bool) → key_eq k i ≡ b → b ≡ false
      by_test true e = let same = ap (λ (l : Key). key_before l j) (key_eq-true k i e) in cc
      by_test false e = refl

with_key-ordered : (k : Key) (js : List Key) → AreInOrder js → AreInOrder (with_key k js)
unfolding IsDistinct
with_key-ordered k [] ordered = (tt, tt)
with_key-ordered k (j ∷ js) ordered = by_tests (key_eq k j) (key_before k j) refl (with_key-ordered k js ordered.1)
  where
    by_tests : (a b : Bool) → key_before k j ≡ b → AreInOrder (with_key k js) → AreInOrder (cond a (j ∷ js) (cond b (k ∷ j ∷ js) (j ∷ with_key k js)))
    by_tests true b e later = ordered
    by_tests false true e later = ((before-flip k j e, all-other (λ i. key_before i j ≡ false) (λ i. key_before i k ≡ false) (not_before k j e) js ordered.0), ordered)
    by_tests false false e later = (all-with_key (λ i. key_before i j ≡ false) k js e ordered.0, later)

with_key-once : (k : Key) (js : List Key) → AreInOrder js → IsDistinct key_eq js → IsDistinct key_eq (with_key k js)
unfolding IsDistinct
with_key-once k [] ordered once = (tt, tt)
with_key-once k (j ∷ js) ordered once = by_tests (key_eq k j) (key_before k j) refl refl (with_key-once k js ordered.1 once.1)
  where
    by_tests : (a b : Bool) → key_eq k j ≡ a → key_before k j ≡ b → IsDistinct key_eq (with_key k js) → IsDistinct key_eq (cond a (j ∷ js) (cond b (k ∷ j ∷ js) (j ∷ with_key k js)))
    by_tests true b e f later = once
    by_tests false true e f later = ((e, all-other (λ i. key_before i j ≡ false) (λ i. key_eq k i ≡ false) (not_same k j f) js ordered.0), once)
    by_tests false false e f later = (all-with_key (λ i. key_eq j i ≡ false) k js (key_eq-flip j k ∙ e) once.0, later)

ordered-once : (keys done : List Key) → AreInOrder done → IsDistinct key_eq done → IsDistinct key_eq (fold (λ (d : List Key) (k : Key). with_key k d) done keys)
ordered-once [] done ordered once = once
ordered-once (k ∷ keys) done ordered once = ordered-once keys (with_key k done) (with_key-ordered k done ordered) (with_key-once k done ordered once)

pub in_order-once : (keys : List Key) → IsDistinct key_eq (in_order keys)
unfolding IsDistinct
in_order-once keys = ordered-once keys [] tt tt

pub writes-once : (p : Plan) → IsDistinct key_eq (writes p)
unfolding writes
writes-once p = in_order-once (target_keys p.set_no p.action)

pub reads-once : (p : Plan) → IsDistinct key_eq (reads p)
unfolding reads
reads-once p = in_order-once (read_keys p.set_no p.action)
