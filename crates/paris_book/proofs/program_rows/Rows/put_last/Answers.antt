use Rattle.paris_program.specs.Program.{id_at}
use Rattle.std.proofs.Common.{ap}
use Rattle.paris_book.specs.Rows.{RowData}
use Rattle.paris_book.specs.SharedIndexes.{indexed_in}
use Rattle.paris_book.proofs.Indexing.{still_indexed}
use Rattle.paris_book.specs.Indexed.{is_unsettled_entry}
use Rattle.paris_book.proofs.Holding.{unsettled_own, unsettled_within, set_own}
use Rattle.paris_book.proofs.program_rows.Rows.put_last.Goals as goal

pub at_mut-row-requires : goal.at_mut-row-requires
at_mut-row-requires c = unsettled_own c.self.inside.program (indexed_in c.self.inside.index) c.self.inside.statuses c.self.invariant c.args.place (rw (← c.self.view_is) at c.requires)

pub set-requires : goal.set-requires
set-requires c = unsettled_within c.self.inside.program (indexed_in c.self.inside.index) c.self.inside.statuses c.self.invariant c.args.place (rw (← c.self.view_is) at c.requires)

pub invariant_of-self : goal.invariant_of-self
invariant_of-self c =
    let here = unsettled_own c.self.inside.program (indexed_in c.self.inside.index) c.self.inside.statuses c.self.invariant c.args.place (rw (← c.self.view_is) at c.requires) in
    record {
      listed = rw (c.set.ensures, c.status.ensures) (still_indexed c.self.inside.program.rows (indexed_in c.self.inside.index) c.self.inside.statuses c.args.place c.at_mut-row.result.now c.settle_again.new.self c.self.invariant.listed c.at_mut-row.ensures.value (ap (λ (row : RowData). row.plan) c.settle_again.ensures));
      own = set_own is_unsettled_entry c.self.inside.program.rows c.self.inside.program.own c.args.place (id_at c.self.inside.program.rows c.args.place, c.settle_again.new.self) here c.self.invariant.own;
    }
