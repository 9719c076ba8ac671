use Rattle.std.proofs.Common.{ap, sym, ◌∙◌}
use Rattle.std.specs.Prelude.{not}
use Rattle.paris_edits.specs.Rows.{is_settled}
use Rattle.paris_program.specs.Program.{id_at}
use Rattle.paris_book.specs.Indexed.{is_unsettled_entry}
use Rattle.paris_book.specs.Rows.{RowData}
use Rattle.paris_book.specs.SharedIndexes.{indexed_in}
use Rattle.paris_book.proofs.Holding.{set_own, recalled_settled}
use Rattle.paris_book.proofs.Indexing.{still_indexed}
use Rattle.paris_book.proofs.program_rows.Rows.recall.Goals as goal

pub returns-then-is_settled-clause-rows : goal.returns-then-is_settled-clause-rows
returns-then-is_settled-clause-rows c =
    let settled = ap is_settled (sym c.status.ensures) ∙ sym c.is_settled.ensures ∙ c.if-is_settled.true in
    rw (← c.self.view_is) (recalled_settled c.self.inside.program.rows c.args.place (c.at.result.0.0, c.at.result.1.now) c.at.ensures.value settled)

pub at_mut-row-requires : goal.at_mut-row-requires
at_mut-row-requires c =
    let unsettled = ap is_settled (sym c.status.ensures) ∙ sym c.is_settled.ensures ∙ c.if-is_settled.false in
    c.self.invariant.own c.args.place (c.at.result.0.0, c.at.result.1.now) c.at.ensures.value (ap not unsettled)

pub invariant_of-self : goal.invariant_of-self
invariant_of-self c =
    let unsettled = ap is_settled (sym c.status.ensures) ∙ sym c.is_settled.ensures ∙ c.if-is_settled.false in
    let here = c.self.invariant.own c.args.place (c.at.result.0.0, c.at.result.1.now) c.at.ensures.value (ap not unsettled) in
    record {
      listed = rw (c.set.ensures, c.status-2.ensures) (still_indexed c.self.inside.program.rows (indexed_in c.self.inside.index) c.self.inside.statuses c.args.place c.at_mut-row.result.now c.recall.new.self c.self.invariant.listed c.at_mut-row.ensures.value (ap (λ (row : RowData). row.plan) c.recall.ensures));
      own = set_own is_unsettled_entry c.self.inside.program.rows c.self.inside.program.own c.args.place (id_at c.self.inside.program.rows c.args.place, c.recall.new.self) here c.self.invariant.own;
    }
