use Rattle.std.proofs.Common.{◌≡◌, ◌-◌, ◌*◌, ◌≤◌, max, min, map}
use Rattle.std.specs.List.{range_with_len}
use Rattle.paris_field.specs.Numbers.{number_at}
use Rattle.paris_stretches.specs.Stretches.{count_others}
use Rattle.paris_stretches.proofs.counts.count_between.Given as goal

abbrev pub invariant-loop-block : goal.invariant-loop-block
invariant-loop-block l = record {
  value : l.count ≡ count_others (map (number_at l.layers) (range_with_len l.start (max l.start (min l.stop (64 * l.block)) - l.start)));
  small : l.count ≤ max l.start (min l.stop (64 * l.block)) - l.start;
}
