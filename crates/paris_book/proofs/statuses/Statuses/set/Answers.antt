use Rattle.std.proofs.Common.{◌≡◌, ◌<◌, Some, refl, length, slice_get}
use Rattle.std.proofs.lemmas.Option.{slice_get_read}
use Rattle.paris_book.proofs.Spans.{fewer_than_rows, spanned_set}
use Rattle.paris_book.proofs.statuses.Statuses.set.Goals as goal

within : (c : goal.After-without) → c.args.place < length c.self.inside.list.items
within c = rw (← c.self.view_is) at c.requires

before : (c : goal.After-without) → slice_get c.self.inside.list.items c.args.place ≡ Some c.index-before.result.now
before c = slice_get_read c.self.inside.list.items (length c.self.inside.list.items) c.args.place c.index-before.result.now refl (within c) c.index-before.ensures

pub with-self-inside-requires-clause-few : goal.with-self-inside-requires-clause-few
with-self-inside-requires-clause-few c =
    fewer_than_rows c.self.inside.list.items c.self.inside.span c.without.result c.args.place c.index-before.result.now c.self.invariant (within c) c.without.ensures.count (before c)

pub invariant_of-self : goal.invariant_of-self
invariant_of-self c =
    let place : c.args.place < length c.self.inside.list.items = rw (← c.self.view_is) at c.requires in
    spanned_set c.self.inside.list.items c.args.place c.index-before.result.now c.args.status c.self.inside.span c.without.result c.with-self-inside.result c.self.invariant
    (slice_get_read c.self.inside.list.items (length c.self.inside.list.items) c.args.place c.index-before.result.now refl place c.index-before.ensures)
    c.without.ensures.count c.without.ensures.others c.without.ensures.end
    c.with-self-inside.ensures.count c.with-self-inside.ensures.place c.with-self-inside.ensures.others c.with-self-inside.ensures.end
