-- What is left has the list.
use Rattle.std.proofs.Common.{◌≡◌, drop}
use Rattle.paris_model.specs.Instructions.{value_at}
use Rattle.paris_plain.proofs.inputs.list_beside.Given as goal

abbrev pub invariant-loop-i : goal.invariant-loop-i
invariant-loop-i l = value_at l.keys l.lists l.key ≡ value_at (drop l.i l.keys) (drop l.i l.lists) l.key
