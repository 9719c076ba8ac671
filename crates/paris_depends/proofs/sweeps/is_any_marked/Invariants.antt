-- None of the keys so far is marked.
use Rattle.std.proofs.Common.{◌≡◌, take, false}
use Rattle.std.specs.List.{list_any}
use Rattle.paris_depends.specs.Sweeps.{marked}
use Rattle.paris_depends.proofs.sweeps.is_any_marked.Given as goal

abbrev pub invariant-loop-key : goal.invariant-loop-key
invariant-loop-key l = list_any (marked l.changed) (take l.key-index l.keys) ≡ false
