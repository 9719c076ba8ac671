use Rattle.std.proofs.Common.{◌≡◌, length, take}
use Rattle.paris_stretches.specs.Stretches.{differences}
use Rattle.paris_stretches.proofs.differences.put_differences.Given as goal

abbrev pub invariant-loop-i : goal.invariant-loop-i
invariant-loop-i l = (length l.room ≡ l.parts) × (take l.i l.room ≡ take l.i (differences l.parts l.x.numbers l.y.numbers))
