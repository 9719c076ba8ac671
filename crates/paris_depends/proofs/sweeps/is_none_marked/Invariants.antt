-- No slot so far is marked.
use Rattle.std.proofs.Common.{◌≡◌, ℕ, ◌<◌, false}
use Rattle.std.specs.Prelude.{slice_index_or}
use Rattle.paris_depends.proofs.sweeps.is_none_marked.Given as goal

abbrev pub invariant-loop-slot : goal.invariant-loop-slot
invariant-loop-slot l = (i : ℕ) → i < l.slot → slice_index_or l.changed i false ≡ false
