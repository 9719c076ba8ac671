-- The first of the places that the later reaches hit.
use Rattle.std.proofs.Common.{◌≡◌, drop}
use Rattle.paris_depends.specs.Reaches.{first_hit}
use Rattle.paris_depends.proofs.reaches.first_hit.Given as goal

abbrev pub invariant-loop-i : goal.invariant-loop-i
invariant-loop-i l = l.first ≡ first_hit (drop l.i l.reaches)
