-- The origin of a key among rows.
use Rattle.std.proofs.Common.{◌≡◌, ℕ, ◌-◌, ◌<◌, zero, suc, length, nat_eq, List, [], ◌∷◌, ◌++◌, take, Bool, true, false, cond, Option, Some, None, refl, sym, ap, ◌∙◌, arith, slice_get}
use Rattle.std.proofs.Math.Seq.{take-suc}
use Rattle.std.proofs.lemmas.Option.{slice_get_within, get_or_from_slice_get}
use Rattle.std.proofs.lemmas.Map.Views.{lookup-from_Contains}
use Rattle.std.specs.Cmp.{nat_eq_equiv}
use Rattle.std.specs.List.{Contains, IsDistinct}
use Rattle.std.specs.Map.{keys_of, lookup}
use Rattle.std.specs.Option.{option_or}
use Rattle.paris_names.specs.declared.keys.Key.{Key}
use Rattle.paris_names.specs.Keys.{has_key}
use Rattle.paris_model.specs.Instructions.{Plan, writes}
use Rattle.paris_model.specs.Recipe.{origin}

module _ {X : Type 0} (plan : X → Plan) (key : Key) where
  -- a last row that writes the key is its origin, and past another it stays
  pub origin-push : (xs : List X) (x : X) → origin plan key (xs ++ x ∷ []) ≡ cond (has_key (writes (plan x)) key) (Some x) (origin plan key xs)
  origin-push [] x = refl
  origin-push (y ∷ xs) x = rw (origin-push xs x) (by_has (has_key (writes (plan x)) key))
    where
      by_has : (b : Bool) → option_or (cond b (Some x) (origin plan key xs)) (cond (has_key (writes (plan y)) key) (Some y) None) ≡ cond b (Some x) (option_or (origin plan key xs) (cond (has_key (writes (plan y)) key) (Some y) None))
      by_has true = refl
      by_has false = refl

  -- the rows before a place, where the last of them is known
  origin-suc : (xs : List X) (j : ℕ) (x : X) → slice_get xs j ≡ Some x → origin plan key (take (suc j) xs) ≡ cond (has_key (writes (plan x)) key) (Some x) (origin plan key (take j xs))
  origin-suc xs j x at =
      ap (origin plan key) (take-suc xs j x (slice_get_within xs j x at) ∙ ap (λ y. take j xs ++ y ∷ []) (get_or_from_slice_get xs j x x at))
      ∙ origin-push (take j xs) x

  -- where the last row before a place writes the key, it is the origin
  pub origin-here : (xs : List X) (i : ℕ) (x : X) → 0 < i → slice_get xs (i - 1) ≡ Some x → has_key (writes (plan x)) key ≡ true → origin plan key (take i xs) ≡ Some x
  origin-here xs i x some at writer =
      ap (λ n. origin plan key (take n xs)) (let e : i ≡ suc (i - 1) = omega arith in e) ∙ origin-suc xs (i - 1) x at ∙ ap (λ b. cond b (Some x) (origin plan key (take (i - 1) xs))) writer

  -- where it doesn't, the rows before it have the same origin
  pub origin-before : (xs : List X) (i : ℕ) (x : X) → 0 < i → slice_get xs (i - 1) ≡ Some x → has_key (writes (plan x)) key ≡ false → origin plan key (take (i - 1) xs) ≡ origin plan key (take i xs)
  origin-before xs i x some at other =
      sym (ap (λ n. origin plan key (take n xs)) (let e : i ≡ suc (i - 1) = omega arith in e) ∙ origin-suc xs (i - 1) x at ∙ ap (λ b. cond b (Some x) (origin plan key (take (i - 1) xs))) other)

  -- an origin among the first rows is one of the rows
  pub origin-among : (xs : List X) (n : ℕ) (x : X) → origin plan key (take n xs) ≡ Some x → Contains xs x
  origin-among [] zero x is = absurd (cc)
  origin-among [] (suc n) x is = absurd (cc)
  origin-among (y ∷ ys) zero x is = absurd (cc)
  origin-among (y ∷ ys) (suc n) x is = by_rest (origin-among ys n x) (origin plan key (take n ys)) refl is
    where
      by_rest : (origin plan key (take n ys) ≡ Some x → Contains ys x) → (o : Option X) → origin plan key (take n ys) ≡ o → option_or o (cond (has_key (writes (plan y)) key) (Some y) None) ≡ Some x → Contains (y ∷ ys) x
      by_rest later (Some z) rest is_some =
          let there = later (rest ∙ is_some) in
          let within : there.0 < length ys = there.1 in
          (suc there.0, omega arith, there.2)
      by_rest later None rest is_some = by_has (has_key (writes (plan y)) key) is_some
        where
          by_has : (b : Bool) → cond b (Some y) None ≡ Some x → Contains (y ∷ ys) x
          by_has true here = (0, omega arith, cc)
          by_has false here = absurd (cc)

-- the origin of a key, among rows with ids of their own, is found again by its id
pub origin-found : {T : Type 0} (plan : T → Plan) (key : Key) (rows : List (ℕ × T)) (place : ℕ) (r : ℕ × T) → IsDistinct nat_eq (keys_of rows) → origin (λ x. plan x.1) key (take place rows) ≡ Some r → lookup (nat_eq r.0) rows ≡ Some r.1
origin-found plan key rows place r distinct is = lookup-from_Contains nat_eq_equiv r.0 r.1 rows distinct (origin-among (λ x. plan x.1) key rows place r is)
