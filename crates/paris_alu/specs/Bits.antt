-- Operations on three bits, and the same on words.
use Rattle.std.specs.Prelude.{ℕ, Bool, ◌&&◌, ◌||◌, bit_and}
use Rattle.paris_model.specs.declared.operators.Sign.{Sign}
use Rattle.paris_model.specs.declared.operators.Sign.TheVariants.{Unsigned, Signed}
use Rattle.std.specs.Int.Bits.{bit_or, bit_xor}
use Rattle.paris_plane.specs.Bits.{differ}

-- whether two bits differ, or two bits before them did
unfoldable pub unlike_bit : Bool → Bool → Bool → Bool
unlike_bit unlike x y = unlike || differ x y

abbrev pub unlike_word : ℕ → ℕ → ℕ → ℕ
unlike_word unlike x y = bit_or unlike (bit_xor x y)

-- whether a sum has another sign than both operands
unfoldable pub sum_overflow_bit : Bool → Bool → Bool → Bool
sum_overflow_bit sum x y = differ sum x && differ sum y

abbrev pub sum_overflow_word : ℕ → ℕ → ℕ → ℕ
sum_overflow_word sum x y = bit_and (bit_xor sum x) (bit_xor sum y)

-- whether operands of two signs have a difference of another sign than the first
unfoldable pub difference_overflow_bit : Bool → Bool → Bool → Bool
difference_overflow_bit difference x y = differ difference x && differ x y

abbrev pub difference_overflow_word : ℕ → ℕ → ℕ → ℕ
difference_overflow_word difference x y = bit_and (bit_xor difference x) (bit_xor x y)

-- the first for unsigned numbers, the second for signed ones
abbrev pub by_sign : {A : Type 0} → Sign → A → A → A
by_sign Unsigned unsigned signed = unsigned
by_sign Signed unsigned signed = signed
