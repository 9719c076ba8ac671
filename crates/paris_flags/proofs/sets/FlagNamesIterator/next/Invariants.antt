-- None of the flags so far is left.
use Rattle.std.proofs.Common.{◌≡◌, ◌-◌}
use Rattle.paris_flags.specs.FlagSets.{flags_left}
use Rattle.paris_flags.proofs.sets.FlagNamesIterator.next.Given as goal

abbrev pub invariant-loop-self : goal.invariant-loop-self
invariant-loop-self l = flags_left l.self ≡ flags_left l.initial.self

abbrev pub decreases-loop-self : goal.decreases-loop-self
decreases-loop-self l = 4 - l.self.place
