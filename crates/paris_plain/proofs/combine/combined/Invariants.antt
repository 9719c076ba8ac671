-- The total is that of the values so far.
use Rattle.std.proofs.Common.{◌≡◌, ◌<◌, ◌^◌, take}
use Rattle.paris_model.specs.Combine.{combined}
use Rattle.paris_plain.proofs.combine.combined.Given as goal

abbrev pub invariant-loop-value : goal.invariant-loop-value
invariant-loop-value l = record {
  same : l.total ≡ combined l.combiner l.length l.fn.start (take l.value-index l.values);
  small : l.total < 2 ^ l.length;
}
