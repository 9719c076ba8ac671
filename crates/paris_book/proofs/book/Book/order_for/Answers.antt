use Rattle.std.proofs.Common.{◌∙◌, ap, subst}
use Rattle.std.proofs.lemmas.Result.{IfOk-weaker}
use Rattle.paris_events.specs.State.{State, IdsApart, row_ids}
use Rattle.paris_book.specs.OrdersFor.{order_for}
use Rattle.paris_book.proofs.OrdersFor.{kept_for}
use Rattle.paris_book.proofs.book.Book.order_for.Goals as goal

pub returns-clause-kept : goal.returns-clause-kept
returns-clause-kept c =
    let s = c.args.self.now in
    let apart : IdsApart (row_ids s.rows) = subst (λ (z : State). IdsApart (row_ids z.rows)) c.self.view_is c.ids_are_apart.ensures in
    IfOk-weaker c.order_for.result _ _
    (λ o is. kept_for s c.args.name c.args.spot apart o (is ∙ ap (λ (z : State). order_for z c.args.name c.args.spot) c.self.view_is))
    c.order_for.ensures.order
