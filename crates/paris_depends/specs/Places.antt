-- Places of the items of a list that pass a test.
use Rattle.std.specs.Prelude.{ℕ, zero, suc, List, [], ◌∷◌, Bool, if◌then◌else◌, length, take, false}
use Rattle.std.specs.List.{filter}

module _ {X : Type 0} (p : X → Bool) where
  -- how many of the first items pass
  abbrev pub count_to : List X → ℕ → ℕ
  count_to xs i = length (filter p (take i xs))

  -- the place of the item that passes after as many others, or the length where there is none
  abbrev pub nth_place : List X → ℕ → ℕ
  nth_place [] c = 0
  nth_place (x ∷ xs) zero = if p x then 0 else suc (nth_place xs zero)
  nth_place (x ∷ xs) (suc c) = if p x then suc (nth_place xs c) else suc (nth_place xs (suc c))

  -- whether there is an item at a place, and it passes
  abbrev pub at_place : List X → ℕ → Bool
  at_place [] i = false
  at_place (x ∷ xs) zero = p x
  at_place (x ∷ xs) (suc i) = at_place xs i
