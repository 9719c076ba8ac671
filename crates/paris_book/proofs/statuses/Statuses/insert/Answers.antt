use Rattle.paris_book.proofs.Spans.{spanned_insert}
use Rattle.paris_book.proofs.statuses.Statuses.insert.Goals as goal

pub invariant_of-self-2 : goal.invariant_of-self-2
invariant_of-self-2 c =
    let place = rw (← c.self.view_is) at c.requires.there in
    let few = rw (← c.self.view_is) at c.requires.few in
    rw c.in_ok-insert.ensures.items
    (spanned_insert c.self.inside.list.items c.args.place c.args.status c.self.inside.span c.opened.result c.with-self-inside.result c.self.invariant place few
    c.opened.ensures.count c.opened.ensures.before c.opened.ensures.behind c.opened.ensures.end
    c.with-self-inside.ensures.count c.with-self-inside.ensures.place c.with-self-inside.ensures.others c.with-self-inside.ensures.end)
