use Rattle.std.proofs.Common.{subst}
use Rattle.paris_events.specs.State.{State, IdsApart, row_ids}
use Rattle.paris_events.specs.CutOff.{IsAtRest}
use Rattle.paris_events.proofs.Ends.{ran_ends, order_left}
use Rattle.paris_events.proofs.Rests.{at_rest}
use Rattle.paris_book.proofs.book.Book.orders_settle.Goals as goal

pub returns-clause-settled : goal.returns-clause-settled
returns-clause-settled c =
    let s = c.args.self.now in
    let rests : IsAtRest s = subst IsAtRest c.self.view_is c.self.invariant in
    let apart : IdsApart (row_ids s.rows) = subst (λ (z : State). IdsApart (row_ids z.rows)) c.self.view_is c.ids_are_apart.ensures in
    (ran_ends s (at_rest s rests) apart).1

pub returns-clause-orders : goal.returns-clause-orders
returns-clause-orders c n more =
    let s = c.args.self.now in
    let rests : IsAtRest s = subst IsAtRest c.self.view_is c.self.invariant in
    let apart : IdsApart (row_ids s.rows) = subst (λ (z : State). IdsApart (row_ids z.rows)) c.self.view_is c.ids_are_apart.ensures in
    order_left s (at_rest s rests) apart n more
