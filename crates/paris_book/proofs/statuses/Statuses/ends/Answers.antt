use Rattle.paris_book.proofs.Spans.{none_unsettled}
use Rattle.paris_book.proofs.statuses.Statuses.ends.Goals as goal

pub returns-then-self-eq0 : goal.returns-then-self-eq0
returns-then-self-eq0 c = rw (← c.self.view_is) (λ i s seen passes. absurd (none_unsettled c.self.inside.list.items c.self.inside.span i s c.self.invariant c.if-self-eq0.true seen passes))
