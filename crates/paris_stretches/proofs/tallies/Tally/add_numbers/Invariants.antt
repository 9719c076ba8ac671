use Rattle.std.proofs.Common.{List, ℕ, ◌++◌, take}
use Rattle.paris_stretches.specs.Tallies.{IsTally}
use Rattle.paris_stretches.proofs.tallies.Tally.add_numbers.Given as goal

abbrev pub invariant-loop-i : goal.invariant-loop-i
invariant-loop-i l = (xs : List ℕ) → IsTally xs l.initial.self → IsTally (xs ++ take l.i l.numbers) l.self
