-- The least of some numbers, from one that none is greater than.
use Rattle.std.proofs.Common.{◌≡◌, ℕ, ◌+◌, ◌<◌, ◌≤◌, List, [], ◌∷◌, length, get_or, max, min, arith, ap}
use Rattle.std.specs.Prelude.{fold}
use Rattle.paris_stretches.specs.Stretches.{greatest, least}

pub least_from : (most : ℕ) (xs : List ℕ) → 0 < length xs → get_or xs 0 0 ≤ most → fold min most xs ≡ least xs
least_from most [] some fits = absurd (omega (arith, some))
least_from most (x ∷ xs) some fits = ap (λ t. fold min t xs) (let e : min most x ≡ x = omega (arith, fits) in e)

rises : (s : ℕ) (xs : List ℕ) → s ≤ fold max s xs
rises s [] = omega arith
rises s (x ∷ xs) = omega (arith, rises (max s x) xs)

pub first_below : (xs : List ℕ) → get_or xs 0 0 ≤ greatest xs
first_below [] = omega arith
first_below (x ∷ xs) = omega (arith, rises (max 0 x) xs)
