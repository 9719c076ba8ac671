-- What fields show for lists of values.
use Rattle.std.specs.Prelude.{ℕ, ◌-◌, ◌^◌, List, map}
use Rattle.paris_model.specs.Store.{everywhere}
use Rattle.paris_field.specs.Fields.{FieldNumbers}

-- in each of n processors what its values come to
abbrev pub shown_field : (ℕ → List ℕ → ℕ) → ℕ → ℕ → (ℕ → List ℕ) → FieldNumbers
shown_field shows L n values = record { width = L; numbers = everywhere n (λ v. shows L (values v)) }

-- a number of L bits with every bit turned
abbrev pub complement : ℕ → ℕ → ℕ
complement L x = 2 ^ L - 1 - x

-- the complement of what the complements of the values come to
abbrev pub complement_shown : (ℕ → List ℕ → ℕ) → ℕ → List ℕ → ℕ
complement_shown shows L values = complement L (shows L (map (complement L) values))
