use Rattle.std.proofs.Common.{◌<◌, refl, length}
use Rattle.std.proofs.lemmas.Option.{slice_get_read}
use Rattle.paris_book.proofs.Spans.{spanned_remove}
use Rattle.paris_book.proofs.statuses.Statuses.remove.Goals as goal

pub invariant_of-self : goal.invariant_of-self
invariant_of-self c =
    let place : c.args.place < length c.self.inside.list.items = rw (← c.self.view_is) at c.requires in
    rw c.remove-status.ensures.items
    (spanned_remove c.self.inside.list.items c.args.place c.remove-status.result c.self.inside.span c.without.result c.closed-self-inside.result c.self.invariant
    (slice_get_read c.self.inside.list.items (length c.self.inside.list.items) c.args.place c.remove-status.result refl place c.remove-status.ensures.value)
    c.without.ensures.count c.without.ensures.others c.without.ensures.end
    c.closed-self-inside.ensures.count c.closed-self-inside.ensures.before c.closed-self-inside.ensures.behind c.closed-self-inside.ensures.end)
