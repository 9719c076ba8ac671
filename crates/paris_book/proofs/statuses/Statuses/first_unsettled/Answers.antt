use Rattle.std.proofs.Common.{sym, ap, ◌∙◌, List}
use Rattle.paris_edits.specs.declared.rows.Status.{Status}
use Rattle.paris_book.specs.Statuses.{first_unsettled}
use Rattle.paris_book.proofs.Spans.{none_counted, none_past, skipped}
use Rattle.paris_book.proofs.statuses.Statuses.first_unsettled.Goals as goal

pub returns-then-self-eq0 : goal.returns-then-self-eq0
returns-then-self-eq0 c = rw (← c.self.view_is) (sym (none_counted c.self.inside.list.items c.self.inside.span c.args.from c.self.invariant c.if-self-eq0.true))

pub first_between-requires-clause-past : goal.first_between-requires-clause-past
first_between-requires-clause-past c = λ place past.
    ap (λ (l : List Status). first_unsettled l place) c.as_slice.ensures.value ∙ none_past c.self.inside.list.items c.self.inside.span place c.self.invariant past

pub returns : goal.returns
returns c =
    rw (← c.self.view_is)
    (c.first_between.ensures ∙ ap (λ (l : List Status). first_unsettled l c.max-start.result) c.as_slice.ensures.value
    ∙ skipped c.self.inside.list.items c.self.inside.span c.args.from c.max-start.result c.self.invariant c.max-start.ensures)
