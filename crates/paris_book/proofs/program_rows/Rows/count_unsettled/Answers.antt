use Rattle.std.proofs.Common.{◌∙◌}
use Rattle.paris_book.proofs.Searches.{count_seen}
use Rattle.paris_book.proofs.program_rows.Rows.count_unsettled.Goals as goal

pub returns : goal.returns
returns c = rw (← c.self.view_is) (c.count_unsettled.ensures ∙ count_seen c.self.inside.program.rows c.self.inside.statuses c.self.invariant.listed.standing)
