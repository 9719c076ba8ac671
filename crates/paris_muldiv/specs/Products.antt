-- Which operator multiplies, and the parts of a signed product.
use Rattle.std.specs.Prelude.{ℕ, ◌-◌, ◌^◌, Bool, ◌&&◌, ◌==◌, List, length, nat_le, unsigned_abs, if◌then◌else◌}
use Rattle.paris_model.specs.declared.operators.Sign.{Sign}
use Rattle.paris_model.specs.declared.operators.Sign.TheVariants.{Unsigned, Signed}
use Rattle.paris_model.specs.declared.operators.BinaryOperator.{BinaryOperator}
use Rattle.paris_model.specs.declared.operators.BinaryOperator.TheVariants.{UnsignedMultiply, SignedMultiply}
use Rattle.paris_model.specs.Store.{everywhere, low, signed}
use Rattle.paris_plane.specs.Bits.{differ}
use Rattle.paris_field.specs.Fields.{FieldNumbers, operand}
use Rattle.paris_field.specs.Numbers.{bits_everywhere, has}

-- the operator of a product
abbrev pub product_operator : Sign → BinaryOperator
product_operator Unsigned = UnsignedMultiply
product_operator Signed = SignedMultiply

-- the low L bits, read as two's complement, with the other sign where the mask is 1
abbrev pub opposite_field : ℕ → List Bool → FieldNumbers → FieldNumbers
opposite_field L mask x = record { width = L; numbers = everywhere (length x.numbers) (λ v. low L (if has mask v then 2 ^ L - operand L x v else operand L x v)) }

-- where that overflows: at the least number
abbrev pub least_plane : ℕ → List Bool → FieldNumbers → List Bool
least_plane L mask x = bits_everywhere (length x.numbers) (λ v. has mask v && (operand L x v == 2 ^ (L - 1)))

-- the absolute values of the low L bits, read as two's complement, as numbers of L bits
abbrev pub absolute_field : ℕ → FieldNumbers → FieldNumbers
absolute_field L x = record { width = L; numbers = everywhere (length x.numbers) (λ v. unsigned_abs (signed L (operand L x v))) }

-- where the low L bits, read as two's complement, have unlike signs
abbrev pub unlike_plane : ℕ → FieldNumbers → FieldNumbers → List Bool
unlike_plane L x y = bits_everywhere (length x.numbers) (λ v. differ (nat_le (2 ^ (L - 1)) (operand L x v)) (nat_le (2 ^ (L - 1)) (operand L y v)))
