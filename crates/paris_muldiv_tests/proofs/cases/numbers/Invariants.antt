use Rattle.std.proofs.Common.{◌≡◌, length}
use Rattle.paris_muldiv_tests.proofs.cases.numbers.Given as goal

abbrev pub invariant-loop-v : goal.invariant-loop-v
invariant-loop-v l = length l.list.items ≡ l.v
