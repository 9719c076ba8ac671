-- What the operators make of whole fields: in each processor the definition for one.
use Rattle.std.specs.Prelude.{ℕ, Bool, List, length}
use Rattle.paris_model.specs.declared.operators.Sign.{Sign}
use Rattle.paris_model.specs.declared.operators.Sign.TheVariants.{Unsigned, Signed}
use Rattle.paris_model.specs.declared.operators.BinaryOperator.{BinaryOperator}
use Rattle.paris_model.specs.declared.operators.BinaryOperator.TheVariants.{UnsignedAdd, UnsignedSubtract, SignedAdd, SignedSubtract, Maximum, Minimum, BitAnd, BitOr, BitXor}
use Rattle.paris_model.specs.declared.operators.UnaryOperator.{UnaryOperator}
use Rattle.paris_model.specs.declared.operators.Comparison.{Comparison}
use Rattle.paris_model.specs.Store.{low, everywhere}
use Rattle.paris_model.specs.Elementwise.{binary_result, binary_carry, binary_overflow, unary_result, unary_overflow, resize_result, resize_overflow, compares}
use Rattle.paris_field.specs.Fields.{FieldNumbers, operand}
use Rattle.paris_field.specs.Numbers.{bits_everywhere}
use Rattle.paris_alu.specs.declared.bitwise.BitOperator.{BitOperator}
use Rattle.paris_alu.specs.declared.bitwise.BitOperator.TheVariants.{And, Or, Xor}
use Rattle.paris_alu.specs.declared.comparisons.Extremum.{Extremum}
use Rattle.paris_alu.specs.declared.comparisons.Extremum.TheVariants as extremum

-- the operator of a sum
abbrev pub sum_operator : Sign → BinaryOperator
sum_operator Unsigned = UnsignedAdd
sum_operator Signed = SignedAdd

-- the operator of a difference
abbrev pub difference_operator : Sign → BinaryOperator
difference_operator Unsigned = UnsignedSubtract
difference_operator Signed = SignedSubtract

-- the operator on each two bits
abbrev pub bitwise_operator : BitOperator → BinaryOperator
bitwise_operator And = BitAnd
bitwise_operator Or = BitOr
bitwise_operator Xor = BitXor

-- the operator that takes the greater or the lesser number
abbrev pub extreme_operator : Extremum → Sign → BinaryOperator
extreme_operator extremum.Maximum sign = Maximum sign
extreme_operator extremum.Minimum sign = Minimum sign

-- the low L bits of the result of an operator that doesn't look at its destination, where the carry flags are `carry`
abbrev pub binary_field : BinaryOperator → ℕ → FieldNumbers → FieldNumbers → (ℕ → ℕ) → FieldNumbers
binary_field operator L x y carry = record { width = L; numbers = everywhere (length x.numbers) (λ v. low L (binary_result operator L (operand L x v) (operand L y v) (carry v) 0)) }

-- where it carries or borrows
abbrev pub carry_plane : BinaryOperator → ℕ → FieldNumbers → FieldNumbers → (ℕ → ℕ) → List Bool
carry_plane operator L x y carry = bits_everywhere (length x.numbers) (λ v. binary_carry operator L (operand L x v) (operand L y v) (carry v))

-- where it overflows
abbrev pub overflow_plane : BinaryOperator → ℕ → FieldNumbers → FieldNumbers → (ℕ → ℕ) → List Bool
overflow_plane operator L x y carry = bits_everywhere (length x.numbers) (λ v. binary_overflow operator L (operand L x v) (operand L y v) (carry v))

-- the low L bits of the result of an operator on one operand
abbrev pub unary_field : UnaryOperator → ℕ → FieldNumbers → FieldNumbers
unary_field operator L x = record { width = L; numbers = everywhere (length x.numbers) (λ v. low L (unary_result operator L (operand L x v))) }

-- where it overflows
abbrev pub unary_overflow_plane : UnaryOperator → ℕ → FieldNumbers → List Bool
unary_overflow_plane operator L x = bits_everywhere (length x.numbers) (λ v. unary_overflow operator L (operand L x v))

-- the numbers of M bits as numbers of L bits
abbrev pub resized_field : Sign → ℕ → ℕ → FieldNumbers → FieldNumbers
resized_field sign L M x = record { width = L; numbers = everywhere (length x.numbers) (λ v. resize_result sign L M (operand M x v)) }

-- where L bits can't hold them
abbrev pub resize_overflow_plane : Sign → ℕ → ℕ → FieldNumbers → List Bool
resize_overflow_plane sign L M x = bits_everywhere (length x.numbers) (λ v. resize_overflow sign L M (operand M x v))

-- where the operands compare so
abbrev pub comparison_plane : Comparison → ℕ → FieldNumbers → FieldNumbers → List Bool
comparison_plane comparison L x y = bits_everywhere (length x.numbers) (λ v. compares comparison L (operand L x v) (operand L y v))
