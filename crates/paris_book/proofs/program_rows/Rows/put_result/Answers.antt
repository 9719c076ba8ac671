use Rattle.std.proofs.Common.{ap}
use Rattle.paris_program.specs.Program.{id_at}
use Rattle.paris_book.specs.Rows.{RowData}
use Rattle.paris_book.specs.SharedIndexes.{indexed_in}
use Rattle.paris_book.proofs.Indexing.{still_indexed}
use Rattle.paris_book.specs.Marks.{kept_data}
use Rattle.paris_book.proofs.Entering.{data_changed}
use Rattle.paris_book.specs.Indexed.{is_unsettled_entry}
use Rattle.paris_book.proofs.Holding.{unsettled_own, unsettled_within, set_own}
use Rattle.paris_book.proofs.program_rows.Rows.put_result.Goals as goal

pub at_mut-row-requires : goal.at_mut-row-requires
at_mut-row-requires c = unsettled_own c.self.inside.program (indexed_in c.self.inside.index) c.self.inside.statuses c.self.invariant c.args.place (rw (← c.self.view_is) at c.requires.unsettled)

pub set-requires : goal.set-requires
set-requires c = unsettled_within c.self.inside.program (indexed_in c.self.inside.index) c.self.inside.statuses c.self.invariant c.args.place (rw (← c.self.view_is) at c.requires.unsettled)

pub invariant_of-self : goal.invariant_of-self
invariant_of-self c =
    let here = unsettled_own c.self.inside.program (indexed_in c.self.inside.index) c.self.inside.statuses c.self.invariant c.args.place (rw (← c.self.view_is) at c.requires.unsettled) in
    record {
      listed = rw (c.set.ensures, c.status.ensures) (still_indexed c.self.inside.program.rows (indexed_in c.self.inside.index) c.self.inside.statuses c.args.place c.at_mut-row.result.now c.keep.new.self c.self.invariant.listed c.at_mut-row.ensures.value (ap (λ (row : RowData). row.plan) c.keep.ensures));
      own = set_own is_unsettled_entry c.self.inside.program.rows c.self.inside.program.own c.args.place (id_at c.self.inside.program.rows c.args.place, c.keep.new.self) here c.self.invariant.own;
    }

pub returns-clause-rows : goal.returns-clause-rows
returns-clause-rows c = rw (← c.self.view_is) (λ e at. data_changed (kept_data c.args.done c.args.sources.keys) c.self.inside.program.rows c.args.place c.at_mut-row.result.now c.keep.new.self e c.at_mut-row.ensures.value at c.keep.ensures)

pub keep-requires : goal.keep-requires
keep-requires c = c.requires.plan (id_at c.self.inside.program.rows c.args.place, c.at_mut-row.result.now) (rw (← c.self.view_is) c.at_mut-row.ensures.value)
