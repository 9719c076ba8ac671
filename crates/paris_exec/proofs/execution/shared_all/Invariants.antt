-- The values so far are shared.
use Rattle.std.proofs.Common.{◌≡◌}
use Rattle.paris_exec.proofs.execution.shared_all.Given as goal

abbrev pub invariant-loop-value : goal.invariant-loop-value
invariant-loop-value l = l.all.items ≡ l.yielded
