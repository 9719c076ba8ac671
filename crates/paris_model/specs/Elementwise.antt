-- What an operator makes of operands x and y of L bits, in one processor. The result is stored in the low L bits.
use Rattle.std.specs.Prelude.{ℕ, ◌+◌, ◌-◌, ◌*◌, ◌/◌, ◌%◌, ◌^◌, ◌+ℤ◌, ◌-ℤ◌, ◌*ℤ◌, Bool, not, false, ◌==◌, nat_lt, nat_le, int_lt, List, [], ◌∷◌, if◌then◌else◌, bit_and, bit_or, bit_xor}
use Rattle.paris_names.specs.declared.keys.FlagName.{FlagName}
use Rattle.paris_names.specs.declared.keys.FlagName.TheVariants.{Carry, Overflow}
use Rattle.paris_model.specs.declared.operators.Sign.{Sign}
use Rattle.paris_model.specs.declared.operators.Sign.TheVariants.{Unsigned, Signed}
use Rattle.paris_model.specs.declared.operators.BinaryOperator.{BinaryOperator}
use Rattle.paris_model.specs.declared.operators.BinaryOperator.TheVariants.{UnsignedAdd, UnsignedAddCarry, UnsignedSubtract, SignedAdd, SignedSubtract, UnsignedMultiply, SignedMultiply, Truncate, Remainder, Maximum, Minimum, BitAnd, BitOr, BitXor}
use Rattle.paris_model.specs.declared.operators.UnaryOperator.{UnaryOperator}
use Rattle.paris_model.specs.declared.operators.UnaryOperator.TheVariants.{Negate, BitNot, Move}
use Rattle.paris_model.specs.declared.operators.Comparison.{Comparison}
use Rattle.paris_model.specs.declared.operators.Comparison.TheVariants.{Equal, NotEqual, Less, LessOrEqual, Greater, GreaterOrEqual}
use Rattle.paris_model.specs.Store.{low, signed, low_signed, is_outside_signed}

-- whether x is less than y
abbrev pub is_less : Sign → ℕ → ℕ → ℕ → Bool
is_less Unsigned L x y = nat_lt x y
is_less Signed L x y = int_lt (signed L x) (signed L y)

-- the greater of x and y
abbrev pub greater : Sign → ℕ → ℕ → ℕ → ℕ
greater sign L x y = if is_less sign L x y then y else x

-- the lesser of x and y
abbrev pub lesser : Sign → ℕ → ℕ → ℕ → ℕ
lesser sign L x y = if is_less sign L y x then y else x

-- the result, where the carry flag and the destination were `carry` and `old`
abbrev pub binary_result : BinaryOperator → ℕ → ℕ → ℕ → ℕ → ℕ → ℕ
binary_result UnsignedAdd L x y carry old = x + y
binary_result UnsignedAddCarry L x y carry old = x + y + carry
binary_result UnsignedSubtract L x y carry old = x + (2 ^ L - y)
binary_result SignedAdd L x y carry old = x + y
binary_result SignedSubtract L x y carry old = x + (2 ^ L - y)
binary_result UnsignedMultiply L x y carry old = x * y
binary_result SignedMultiply L x y carry old = low_signed L (signed L x *ℤ signed L y)
binary_result Truncate L x y carry old = if y == 0 then old else x / y
binary_result Remainder L x y carry old = if y == 0 then old else x % y
binary_result (Maximum sign) L x y carry old = greater sign L x y
binary_result (Minimum sign) L x y carry old = lesser sign L x y
binary_result BitAnd L x y carry old = bit_and x y
binary_result BitOr L x y carry old = bit_or x y
binary_result BitXor L x y carry old = bit_xor x y

-- the flags that the operator sets
abbrev pub binary_flags : BinaryOperator → List FlagName
binary_flags UnsignedAdd = Carry ∷ Overflow ∷ []
binary_flags UnsignedAddCarry = Carry ∷ Overflow ∷ []
binary_flags UnsignedSubtract = Carry ∷ Overflow ∷ []
binary_flags SignedAdd = Carry ∷ Overflow ∷ []
binary_flags SignedSubtract = Carry ∷ Overflow ∷ []
binary_flags UnsignedMultiply = Overflow ∷ []
binary_flags SignedMultiply = Overflow ∷ []
binary_flags Truncate = Overflow ∷ []
binary_flags Remainder = Overflow ∷ []
binary_flags _ = []

-- the carry that comes out of the sum, or the borrow of the difference
abbrev pub binary_carry : BinaryOperator → ℕ → ℕ → ℕ → ℕ → Bool
binary_carry UnsignedAdd L x y carry = nat_le (2 ^ L) (x + y)
binary_carry UnsignedAddCarry L x y carry = nat_le (2 ^ L) (x + y + carry)
binary_carry UnsignedSubtract L x y carry = nat_lt x y
binary_carry SignedAdd L x y carry = nat_le (2 ^ L) (x + y)
binary_carry SignedSubtract L x y carry = nat_lt x y
binary_carry _ L x y carry = false

-- whether the exact result is outside what L bits can hold, or there is none
abbrev pub binary_overflow : BinaryOperator → ℕ → ℕ → ℕ → ℕ → Bool
binary_overflow UnsignedAdd L x y carry = nat_le (2 ^ L) (x + y)
binary_overflow UnsignedAddCarry L x y carry = nat_le (2 ^ L) (x + y + carry)
binary_overflow UnsignedSubtract L x y carry = nat_lt x y
binary_overflow SignedAdd L x y carry = is_outside_signed L (signed L x +ℤ signed L y)
binary_overflow SignedSubtract L x y carry = is_outside_signed L (signed L x -ℤ signed L y)
binary_overflow UnsignedMultiply L x y carry = nat_le (2 ^ L) (x * y)
binary_overflow SignedMultiply L x y carry = is_outside_signed L (signed L x *ℤ signed L y)
binary_overflow Truncate L x y carry = y == 0
binary_overflow Remainder L x y carry = y == 0
binary_overflow _ L x y carry = false

-- the result of an operator on one operand
abbrev pub unary_result : UnaryOperator → ℕ → ℕ → ℕ
unary_result Negate L x = 2 ^ L - x
unary_result BitNot L x = 2 ^ L - 1 - x
unary_result Move L x = x

-- the flags that it sets
abbrev pub unary_flags : UnaryOperator → List FlagName
unary_flags Negate = Overflow ∷ []
unary_flags BitNot = []
unary_flags Move = []

-- whether the exact result is outside what L bits can hold: the least signed number has no opposite
abbrev pub unary_overflow : UnaryOperator → ℕ → ℕ → Bool
unary_overflow Negate L x = x == 2 ^ (L - 1)
unary_overflow BitNot L x = false
unary_overflow Move L x = false

-- a number of M bits as one of L bits
abbrev pub resize_result : Sign → ℕ → ℕ → ℕ → ℕ
resize_result Unsigned L M x = low L x
resize_result Signed L M x = low_signed L (signed M x)

-- whether L bits can't hold it
abbrev pub resize_overflow : Sign → ℕ → ℕ → ℕ → Bool
resize_overflow Unsigned L M x = nat_le (2 ^ L) x
resize_overflow Signed L M x = is_outside_signed L (signed M x)

-- whether x and y compare so
abbrev pub compares : Comparison → ℕ → ℕ → ℕ → Bool
compares Equal L x y = x == y
compares NotEqual L x y = not (x == y)
compares (Less sign) L x y = is_less sign L x y
compares (LessOrEqual sign) L x y = not (is_less sign L y x)
compares (Greater sign) L x y = is_less sign L y x
compares (GreaterOrEqual sign) L x y = not (is_less sign L x y)
