use Rattle.paris_text.proofs.InstructionLemmas.{gave_spelled, gave_bounds, gave_back, gave_column}
use Rattle.paris_text.proofs.instructions.read_instr.Goals as goal

pub returns-clause-spelled : goal.returns-clause-spelled
returns-clause-spelled c = gave_spelled c.next_instr.result c.args.line.now c.next_instr.ensures

pub returns-clause-read : goal.returns-clause-read
returns-clause-read c = gave_back c.next_instr.result c.args.line.now c.next_instr.ensures

pub returns-clause-column : goal.returns-clause-column
returns-clause-column c = gave_column c.next_instr.result c.args.line.now c.next_instr.ensures

pub returns-clause-bounds : goal.returns-clause-bounds
returns-clause-bounds c = gave_bounds c.next_instr.result c.args.line.now c.next_instr.ensures
