-- What the operations on words do to each bit.
use Rattle.std.proofs.Common.{arith}
use Rattle.std.specs.Int.Bits.{bit_xor}
use Rattle.paris_plane.specs.Bits.{ByBit3}
use Rattle.paris_plane.specs.Laws.{and_by_bit, or_by_bit, xor_by_bit}
use Rattle.paris_alu.specs.Bits.{unlike_bit, unlike_word, sum_overflow_bit, sum_overflow_word, difference_overflow_bit, difference_overflow_word}

pub unlike_by_bit : ByBit3 unlike_word unlike_bit
unfolding unlike_bit
unlike_by_bit u x y i = grind (arith, or_by_bit u (bit_xor x y) i, xor_by_bit x y i)

pub sum_overflow_by_bit : ByBit3 sum_overflow_word sum_overflow_bit
unfolding sum_overflow_bit
sum_overflow_by_bit s x y i = grind (arith, and_by_bit (bit_xor s x) (bit_xor s y) i, xor_by_bit s x i, xor_by_bit s y i)

pub difference_overflow_by_bit : ByBit3 difference_overflow_word difference_overflow_bit
unfolding difference_overflow_bit
difference_overflow_by_bit d x y i = grind (arith, and_by_bit (bit_xor d x) (bit_xor x y) i, xor_by_bit d x i, xor_by_bit x y i)
