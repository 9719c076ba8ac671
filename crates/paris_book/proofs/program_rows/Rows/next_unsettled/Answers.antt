use Rattle.std.proofs.Common.{◌∙◌}
use Rattle.paris_book.proofs.Searches.{next_seen, found_within}
use Rattle.paris_book.proofs.program_rows.Rows.next_unsettled.Goals as goal

pub returns-clause-value : goal.returns-clause-value
returns-clause-value c = rw (← c.self.view_is) (c.first_unsettled.ensures ∙ next_seen c.self.inside.program.rows c.self.inside.statuses c.args.from c.self.invariant.listed.standing)

pub returns-clause-within : goal.returns-clause-within
returns-clause-within c =
    rw (← c.self.view_is) (found_within c.self.inside.program.rows c.args.from c.first_unsettled.result
    (c.first_unsettled.ensures ∙ next_seen c.self.inside.program.rows c.self.inside.statuses c.args.from c.self.invariant.listed.standing))
