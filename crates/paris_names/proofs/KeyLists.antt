-- Keys: the tests tell them apart, and a list in order has the keys that it was made of.
use Rattle.std.proofs.Common.{◌≡◌, ℕ, Bool, true, false, List, [], ◌∷◌, refl, sym, ap, ◌∙◌, subst, arith, ◌<◌}
use Rattle.std.specs.Prelude.{◌||◌, fold}
use Rattle.std.proofs.lemmas.Bool.{eqb-true, eq-eqb, and_parts}
use Rattle.paris_names.specs.declared.keys.FlagName.{FlagName}
use Rattle.paris_names.specs.declared.keys.FlagName.TheVariants.{Context, Test, Carry, Overflow}
use Rattle.paris_names.specs.declared.keys.Key.{Key}
use Rattle.paris_names.specs.declared.keys.Key.TheVariants.{Field, Flag}
use Rattle.paris_names.specs.Keys.{flag_place, key_eq, key_before, key_slot, has_key, with_key, in_order}

pub flag-from-place : (a b : FlagName) → flag_place a ≡ flag_place b → a ≡ b
flag-from-place Context Context e = refl
flag-from-place Test Test e = refl
flag-from-place Carry Carry e = refl
flag-from-place Overflow Overflow e = refl
flag-from-place _ _ e = absurd (omega arith)

pub key_eq-true : (j k : Key) → key_eq j k ≡ true → j ≡ k
key_eq-true (Field f) (Field g) e = ap Field (eqb-true f g e)
key_eq-true (Flag s a) (Flag t b) e =
    let same-set : s ≡ t = eqb-true s t (and_parts _ _ e).0 in
    let same-flag : a ≡ b = flag-from-place a b (eqb-true (flag_place a) (flag_place b) (and_parts _ _ e).1) in
    cc
key_eq-true (Field f) (Flag t b) e = cc
key_eq-true (Flag s a) (Field g) e = cc

pub key_eq-same : (k : Key) → key_eq k k ≡ true
key_eq-same (Field f) = eq-eqb f f refl
key_eq-same (Flag s a) = simp (eq-eqb s s refl, eq-eqb (flag_place a) (flag_place a) refl)

pub key_eq-apart : (j k : Key) → (j ≡ k → ⊥) → key_eq j k ≡ false
key_eq-apart j k ne = by_test (key_eq j k) refl
  where
    by_test : (b : Bool) → key_eq j k ≡ b → b ≡ false
    by_test true e = absurd (ne (key_eq-true j k e))
    by_test false e = refl

pub key_eq-is : (j k : Key) → j ≡ k → key_eq j k ≡ true
key_eq-is j k e = subst (λ (x : Key). key_eq j x ≡ true) e (key_eq-same j)

pub key_eq-flip : (j k : Key) → key_eq j k ≡ key_eq k j
key_eq-flip j k = by_test (key_eq k j) refl
  where
    by_test : (b : Bool) → key_eq k j ≡ b → key_eq j k ≡ b
    by_test true e = key_eq-is j k (sym (key_eq-true k j e))
    by_test false e = key_eq-apart j k (λ x. let y : true ≡ false = sym (key_eq-is k j (sym x)) ∙ e in cc)

flag_place-small : (a : FlagName) → flag_place a < 4
flag_place-small Context = omega arith
flag_place-small Test = omega arith
flag_place-small Carry = omega arith
flag_place-small Overflow = omega arith

-- no two keys have one number
pub slot-apart : (j k : Key) → key_slot j ≡ key_slot k → j ≡ k
slot-apart (Field f) (Field g) e = ap Field (let x : f ≡ g = omega arith in x)
slot-apart (Flag s a) (Flag t b) e =
    let small-a = flag_place-small a in
    let small-b = flag_place-small b in
    let same-set : s ≡ t = omega arith in
    let same-flag : a ≡ b = flag-from-place a b (omega arith) in
    cc
slot-apart (Field f) (Flag t b) e = absurd (omega arith)
slot-apart (Flag s a) (Field g) e = absurd (omega arith)

or-again : (x y : Bool) → (x || y) ≡ (x || (x || y))
or-again true y = refl
or-again false y = refl

or-left-comm : (x y z : Bool) → (x || (y || z)) ≡ (y || (x || z))
or-left-comm true true z = refl
or-left-comm true false z = refl
or-left-comm false true z = refl
or-left-comm false false z = refl

or-turn : (x y z : Bool) → (x || (y || z)) ≡ ((y || x) || z)
or-turn true true z = refl
or-turn true false z = refl
or-turn false true z = refl
or-turn false false z = refl

-- a key put in is there, beside those that were
pub has_key-with_key : (keys : List Key) (j k : Key) → has_key (with_key j keys) k ≡ (key_eq k j || has_key keys k)
has_key-with_key [] j k = refl
has_key-with_key (i ∷ is) j k = go (has_key-with_key is j k) (key_eq j i) (key_before j i) refl refl
  where
    go : has_key (with_key j is) k ≡ (key_eq k j || has_key is k) → (b c : Bool) → key_eq j i ≡ b → key_before j i ≡ c → has_key (with_key j (i ∷ is)) k ≡ (key_eq k j || (key_eq k i || has_key is k))
    go later true c e f = simp e (rw (← key_eq-true j i e) (or-again (key_eq k j) (has_key is k)))
    go later false true e f = simp (e, f)
    go later false false e f = simp (e, f, later) (or-left-comm (key_eq k i) (key_eq k j) (has_key is k))

put-in-each : (keys done : List Key) (k : Key) → has_key (fold (λ done j. with_key j done) done keys) k ≡ (has_key keys k || has_key done k)
put-in-each [] done k = refl
put-in-each (j ∷ js) done k =
    put-in-each js (with_key j done) k ∙ rw has_key-with_key (or-turn (has_key js k) (key_eq k j) (has_key done k))

-- the keys in order are the keys
pub has_key-in_order : (keys : List Key) (k : Key) → has_key (in_order keys) k ≡ has_key keys k
has_key-in_order keys k = put-in-each keys [] k ∙ or-false (has_key keys k)
  where
    or-false : (x : Bool) → (x || false) ≡ x
    or-false true = refl
    or-false false = refl
