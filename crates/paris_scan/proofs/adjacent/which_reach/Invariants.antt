-- The numbers so far.
use Rattle.std.proofs.Common.{◌≡◌, leb, map, take}
use Rattle.paris_scan.proofs.adjacent.which_reach.Given as goal

abbrev pub invariant-loop-number : goal.invariant-loop-number
invariant-loop-number l = l.lines.items ≡ map (leb l.limit) (take l.number-index l.numbers)
