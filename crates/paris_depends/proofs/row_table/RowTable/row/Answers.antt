use Rattle.std.proofs.Common.{sym}
use Rattle.paris_program.proofs.Edits.{no_row, row_at_place}
use Rattle.paris_depends.proofs.row_table.RowTable.row.Goals as goal

pub returns-in-Some : goal.returns-in-Some
returns-in-Some g c = sym (row_at_place c.args.self.now.rows c.args.id.0 c.in-Some.place c.at.result.now (sym c.in-Some.ensures.value) c.at.ensures)

pub returns-in-None : goal.returns-in-None
returns-in-None g c = sym (no_row c.args.self.now.rows c.args.id.0 (sym c.in-None.ensures.value))
