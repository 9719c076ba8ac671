use Rattle.std.proofs.Common.{◌+◌, ◌-◌, ◌*◌, min, max, map}
use Rattle.std.specs.Prelude.{slice_index}
use Rattle.std.specs.List.{range_with_len}
use Rattle.paris_stretches.specs.Tallies.{IsTally}
use Rattle.paris_stretches.proofs.tallies.tally_of.Given as goal

abbrev pub invariant-loop-block : goal.invariant-loop-block
invariant-loop-block l = IsTally (map (slice_index l.value.numbers) (range_with_len l.start (max l.start (min l.stop (64 * l.block)) - l.start))) l.tally
