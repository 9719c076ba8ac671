use Rattle.std.proofs.Common.{ap, ◌∙◌}
use Rattle.paris_program.specs.Program.{with_row}
use Rattle.paris_depends.specs.Index.{footprint}
use Rattle.paris_depends.specs.RowTable.{RowTable}
use Rattle.paris_depends.proofs.Edited.{row_written}
use Rattle.paris_depends.proofs.row_table.RowTable.replace.Goals as goal

pub returns : goal.returns
returns c =
    row_written c.self.inside.rows.items c.args.place c.at_mut-row.result.now c.set_plan.new.self (footprint c.args.plan) c.at_mut-row.ensures.value c.set_plan.ensures
    ∙ ap (λ (t : RowTable). with_row t.rows c.args.place (footprint c.args.plan)) c.self.view_is
