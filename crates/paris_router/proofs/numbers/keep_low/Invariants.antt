-- The numbers so far are cut, and the others stand.
use Rattle.std.proofs.Common.{◌≡◌, ◌++◌, drop, map, take}
use Rattle.paris_model.specs.Store.{low}
use Rattle.paris_router.proofs.numbers.keep_low.Given as goal

abbrev pub invariant-loop-number : goal.invariant-loop-number
invariant-loop-number l = l.numbers ≡ map (low l.bits) (take l.number-index l.fn.numbers) ++ drop l.number-index l.fn.numbers
