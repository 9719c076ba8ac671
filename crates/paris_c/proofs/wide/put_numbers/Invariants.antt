-- The room begins with the numbers so far.
use Rattle.std.proofs.Common.{◌≡◌, length, map, take}
use Rattle.paris_c.specs.Calls.{wide_of}
use Rattle.paris_c.proofs.wide.put_numbers.Given as goal

abbrev pub invariant-loop-i : goal.invariant-loop-i
invariant-loop-i l = (length l.room ≡ length l.numbers) × (take l.i l.room ≡ take l.i (map wide_of l.numbers))
