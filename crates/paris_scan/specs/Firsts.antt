-- The first value of a list, and whether there is one.
use Rattle.std.specs.Prelude.{ℕ, ◌+◌, ◌^◌, List, [], ◌∷◌}

-- the first value with a bit above its L bits, or 0 where there is none
abbrev pub first_shown : ℕ → List ℕ → ℕ
first_shown L [] = 0
first_shown L (x ∷ xs) = x + 2 ^ L
