use Rattle.std.proofs.Common.{◌≡◌, ℕ, ◌*◌, ◌<◌, ◌≤◌}
use Rattle.paris_field.specs.Numbers.{number_at}
use Rattle.paris_stretches.proofs.differences.agrees.Given as goal

abbrev pub invariant-loop-block : goal.invariant-loop-block
invariant-loop-block l = (v : ℕ) → l.start ≤ v → v < l.stop → v < 64 * l.block → number_at l.xs v ≡ number_at l.ys v
