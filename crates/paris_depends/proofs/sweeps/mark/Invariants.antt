-- What the keys so far have marked.
use Rattle.std.proofs.Common.{◌≡◌, take, cond}
use Rattle.paris_names.specs.declared.keys.Key.{Key}
use Rattle.paris_names.specs.Keys.{has_key}
use Rattle.paris_depends.specs.Sweeps.{marked}
use Rattle.paris_depends.proofs.sweeps.mark.Given as goal

abbrev pub invariant-loop-key : goal.invariant-loop-key
invariant-loop-key l = (k : Key) → marked l.changed k ≡ cond (has_key (take l.key-index l.keys) k) l.hit (marked l.fn.changed k)
