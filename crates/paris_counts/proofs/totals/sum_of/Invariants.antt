use Rattle.std.proofs.Common.{◌≡◌, drop}
use Rattle.paris_field.specs.Numbers.{number_at, has}
use Rattle.paris_counts.specs.Masked.{masked_sum}
use Rattle.paris_counts.proofs.totals.sum_of.Given as goal

abbrev pub invariant-loop-k : goal.invariant-loop-k
invariant-loop-k l = l.total ≡ masked_sum (has l.mask) (number_at (drop l.k l.planes)) l.start l.count
