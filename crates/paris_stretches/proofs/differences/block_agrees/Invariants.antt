-- The planes so far have the same bits there.
use Rattle.std.proofs.Common.{◌≡◌, ℕ, ◌+◌, ◌*◌, ◌<◌, false, get_or}
use Rattle.paris_field.specs.Numbers.{plane_at}
use Rattle.paris_stretches.proofs.differences.block_agrees.Given as goal

abbrev pub invariant-loop-k : goal.invariant-loop-k
invariant-loop-k l = (k : ℕ) → k < l.k → (i : ℕ) → i < l.count → get_or (plane_at l.xs k) (64 * l.block + (l.from + i)) false ≡ get_or (plane_at l.ys k) (64 * l.block + (l.from + i)) false
