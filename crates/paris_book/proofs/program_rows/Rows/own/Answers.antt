use Rattle.std.proofs.Common.{refl}
use Rattle.paris_book.specs.SharedIndexes.{indexed_in}
use Rattle.paris_book.proofs.Holding.{held_still}
use Rattle.paris_book.proofs.program_rows.Rows.own.Goals as goal

pub invariant_of-self : goal.invariant_of-self
invariant_of-self c = held_still c.self.inside.program (indexed_in c.self.inside.index) c.self.inside.statuses c.self.invariant c.own.new.self (indexed_in c.self.inside.index) c.own.ensures.rows c.own.ensures.own refl

pub returns-clause-own : goal.returns-clause-own
returns-clause-own c = rw (← c.self.view_is) c.own.ensures.own
