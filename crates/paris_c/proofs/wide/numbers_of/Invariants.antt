-- The numbers so far are those of the front.
use Rattle.std.proofs.Common.{◌≡◌, take}
use Rattle.paris_c.specs.Calls.{wide_numbers}
use Rattle.paris_c.proofs.wide.numbers_of.Given as goal

abbrev pub invariant-loop-number : goal.invariant-loop-number
invariant-loop-number l = l.numbers.items ≡ wide_numbers (take l.number-index l.given)
