-- The targets, and the sources so far.
use Rattle.std.proofs.Common.{◌≡◌, ◌++◌, take}
use Rattle.paris_model.specs.Instructions.{target_fields, source_fields}
use Rattle.paris_instr.proofs.operands.all_operands.Given as goal

abbrev pub invariant-loop-operand : goal.invariant-loop-operand
invariant-loop-operand l = l.all ≡ target_fields l.action ++ take l.operand-index (source_fields l.action)
