use Rattle.std.proofs.Common.{◌≡◌, ◌-◌, ◌^◌, ◌<◌, length, drop}
use Rattle.std.specs.List.{range_with_len}
use Rattle.std.specs.Prelude.{fold}
use Rattle.std.specs.Int.Bits.{bit_xor}
use Rattle.paris_model.specs.Lines.{values_where}
use Rattle.paris_field.specs.Numbers.{has, number_at}
use Rattle.paris_counts.proofs.totals.xor_of.Given as goal

abbrev pub invariant-loop-k : goal.invariant-loop-k
invariant-loop-k l = record {
  value : l.total ≡ fold bit_xor 0 (values_where (has l.mask) (number_at (drop l.k l.planes)) (range_with_len l.start l.count));
  small : l.total < 2 ^ (length l.planes - l.k);
}
