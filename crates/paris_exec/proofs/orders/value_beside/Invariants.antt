-- What is left has the value.
use Rattle.std.proofs.Common.{◌≡◌, drop}
use Rattle.paris_exec.specs.Tasks.{beside}
use Rattle.paris_exec.proofs.orders.value_beside.Given as goal

abbrev pub invariant-loop-i : goal.invariant-loop-i
invariant-loop-i l = beside l.keys l.values l.key ≡ beside (drop l.i l.keys) (drop l.i l.values) l.key
