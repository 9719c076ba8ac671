-- The total is the sum of the values so far, as far as it fits.
use Rattle.std.proofs.Common.{◌≡◌, ◌-◌, ◌^◌, min, sum, take}
use Rattle.paris_plain.proofs.combine.sum_overflows.Given as goal

abbrev pub invariant-loop-value : goal.invariant-loop-value
invariant-loop-value l = l.total ≡ min (sum (take l.value-index l.values)) (2 ^ 128 - 1)
