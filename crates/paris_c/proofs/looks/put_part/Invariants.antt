-- The room begins with the numbers so far.
use Rattle.std.proofs.Common.{◌≡◌, length, take, drop}
use Rattle.paris_c.proofs.looks.put_part.Given as goal

abbrev pub invariant-loop-i : goal.invariant-loop-i
invariant-loop-i l = (length l.room ≡ length l.fn.room) × (take l.i l.room ≡ take l.i (drop l.from l.value.numbers))
