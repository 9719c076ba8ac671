use Rattle.std.proofs.Common.{◌≡◌, ℕ, ◌<◌}
use Rattle.paris_field.specs.Numbers.{plane_at}
use Rattle.paris_field.proofs.planes.same_layers.Given as goal

abbrev pub invariant-loop-k : goal.invariant-loop-k
invariant-loop-k l = (j : ℕ) → j < l.k → plane_at l.x j ≡ plane_at l.y j
