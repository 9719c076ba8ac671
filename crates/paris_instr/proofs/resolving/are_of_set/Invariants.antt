-- The operands so far are of the set, and the rest are operands on the board.
use Rattle.std.proofs.Common.{◌≡◌, ◌==◌, drop}
use Rattle.std.specs.List.{list_all}
use Rattle.paris_instr.specs.Resolve.{set_of_operand, AreOperandsOf}
use Rattle.paris_instr.proofs.resolving.are_of_set.Given as goal

abbrev pub invariant-loop-operand : goal.invariant-loop-operand
invariant-loop-operand l = record {
  known : AreOperandsOf l.board (drop l.operand-index l.operands);
  so_far : list_all (λ o. set_of_operand l.board o == l.set) l.operands ≡ list_all (λ o. set_of_operand l.board o == l.set) (drop l.operand-index l.operands);
}
