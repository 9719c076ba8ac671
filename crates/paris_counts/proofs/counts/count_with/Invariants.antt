use Rattle.std.proofs.Common.{◌≡◌, ◌*◌, ◌≤◌}
use Rattle.paris_field.specs.Numbers.{bit_in, has}
use Rattle.paris_counts.specs.Masked.{masked_sum}
use Rattle.paris_counts.proofs.counts.count_with.Given as goal

abbrev pub invariant-loop-i : goal.invariant-loop-i
invariant-loop-i l = record {
  value : l.ones ≡ masked_sum (has l.mask) (bit_in l.x) l.start (64 * l.i);
  small : l.ones ≤ 64 * l.i;
}
