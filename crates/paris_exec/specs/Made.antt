-- What operators of two sources make of them.
use Rattle.std.specs.Prelude.{◌≡◌, ℕ, Bool, true, false, [], ◌∷◌}
use Rattle.paris_names.specs.declared.keys.FlagName.TheVariants.{Carry, Overflow}
use Rattle.paris_model.specs.declared.operators.BinaryOperator.{BinaryOperator}
use Rattle.paris_model.specs.declared.operators.BinaryOperator.TheVariants.{Truncate, Remainder}
use Rattle.paris_model.specs.Elementwise.{binary_flags}
use Rattle.paris_field.specs.Fields.{FieldNumbers}
use Rattle.paris_alu.specs.Alu.{binary_field, carry_plane, overflow_plane}
use Rattle.paris_exec.specs.declared.binary.Made.{Made}
use Rattle.paris_exec.specs.declared.binary.Made.TheVariants.{Sum, Product, Quotient, Plain}

-- whether an operator keeps the destination where it has no result
abbrev pub is_quotient : BinaryOperator → Bool
is_quotient Truncate = true
is_quotient Remainder = true
is_quotient _ = false

-- what an operator makes of the low L bits of two sources, where the carry flags are `carry`: its result, and each flag that it sets
abbrev pub IsMade : BinaryOperator → ℕ → FieldNumbers → FieldNumbers → (ℕ → ℕ) → Made → Type 0
IsMade op L x y carry (Sum made) = (binary_flags op ≡ Carry ∷ Overflow ∷ []) × (is_quotient op ≡ false) × (made.value ≡ binary_field op L x y carry) × (made.carry ≡ carry_plane op L x y carry) × (made.overflow ≡ overflow_plane op L x y carry)
IsMade op L x y carry (Product made) = (binary_flags op ≡ Overflow ∷ []) × (is_quotient op ≡ false) × (made.value ≡ binary_field op L x y carry) × (made.overflow ≡ overflow_plane op L x y carry)
IsMade op L x y carry (Quotient made) = (binary_flags op ≡ Overflow ∷ []) × (is_quotient op ≡ true) × (made.value ≡ binary_field op L x y carry) × (made.overflow ≡ overflow_plane op L x y carry)
IsMade op L x y carry (Plain value) = (binary_flags op ≡ []) × (is_quotient op ≡ false) × (value ≡ binary_field op L x y carry)
