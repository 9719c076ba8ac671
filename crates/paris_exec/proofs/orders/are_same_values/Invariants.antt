use Rattle.std.proofs.Common.{◌≡◌, ℕ, ◌<◌, get_or}
use Rattle.paris_exec.proofs.orders.are_same_values.Given as goal

abbrev pub invariant-loop-i : goal.invariant-loop-i
invariant-loop-i l = (k : ℕ) (d : _) → k < l.i → get_or l.values k d ≡ get_or l.others k d
