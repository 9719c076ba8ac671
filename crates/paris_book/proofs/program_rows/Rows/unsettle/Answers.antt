use Rattle.std.proofs.Common.{ap}
use Rattle.paris_book.specs.Rows.{RowData}
use Rattle.paris_book.specs.SharedIndexes.{indexed_in}
use Rattle.paris_book.proofs.Indexing.{still_indexed}
use Rattle.paris_program.specs.Program.{id_at}
use Rattle.paris_book.specs.Indexed.{is_unsettled_entry}
use Rattle.paris_book.proofs.Holding.{set_own}
use Rattle.paris_book.proofs.program_rows.Rows.unsettle.Goals as goal

pub at_mut-row-requires : goal.at_mut-row-requires
at_mut-row-requires c = rw (← c.self.view_is) at c.requires.own

pub invariant_of-self : goal.invariant_of-self
invariant_of-self c = record {
  listed = rw (c.set.ensures, c.status.ensures) (still_indexed c.self.inside.program.rows (indexed_in c.self.inside.index) c.self.inside.statuses c.args.place c.at_mut-row.result.now c.unsettle.new.self c.self.invariant.listed c.at_mut-row.ensures.value (ap (λ (row : RowData). row.plan) c.unsettle.ensures));
  own = set_own is_unsettled_entry c.self.inside.program.rows c.self.inside.program.own c.args.place (id_at c.self.inside.program.rows c.args.place, c.unsettle.new.self) (rw (← c.self.view_is) at c.requires.own) c.self.invariant.own;
}

pub returns-clause-own : goal.returns-clause-own
returns-clause-own c = λ test own.
    set_own test c.self.inside.program.rows c.self.inside.program.own c.args.place (id_at c.self.inside.program.rows c.args.place, c.unsettle.new.self) (rw (← c.self.view_is) at c.requires.own) (rw (← c.self.view_is) at own)
