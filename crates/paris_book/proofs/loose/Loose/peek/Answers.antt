use Rattle.std.proofs.Common.{rules, refl, subst}
use Rattle.std.specs.Prelude.{IsSome}
use Rattle.std.proofs.lemmas.Option.{slice_get_within}
use Rattle.paris_events.specs.Orders.{take_reply}
use Rattle.paris_book.specs.Among.{inputs_of}
use Rattle.paris_book.proofs.Takes.{next_found, ready_own, none_order, take_order}
use Rattle.paris_book.proofs.loose.Loose.peek.Goals as goal

pub order_at-requires-clause-within : goal.order_at-requires-clause-within
order_at-requires-clause-within c =
    let found = next_found c.self.inside.rows.rows c.in-Some.place c.in-Some.ensures in
    slice_get_within c.self.inside.rows.rows c.in-Some.place found.0 found.2

pub returns-in-None-clause-order : goal.returns-in-None-clause-order
returns-in-None-clause-order c = none_order c.self.inside.board c.self.inside.edits c.self.inside.rows.next_id (inputs_of c.self.inside.inputs) c.self.inside.rows.rows c.args.self.now c.self.view_is c.in-None.ensures

pub returns-in-Some-clause-order : goal.returns-in-Some-clause-order
returns-in-Some-clause-order c =
    let found = next_found c.self.inside.rows.rows c.in-Some.place c.in-Some.ensures in
    let own = ready_own (inputs_of c.self.inside.inputs) c.self.inside.rows.rows c.in-Some.place found.0 found.1 in
    let take = take_order c.self.inside.board c.self.inside.edits c.self.inside.rows.next_id (inputs_of c.self.inside.inputs) c.self.inside.rows.rows c.args.self.now c.in-Some.place found.0 c.self.view_is found.1 in
    search (rules, c.order_at.ensures, found.2, own, take)

pub returns-in-Some-clause-ready : goal.returns-in-Some-clause-ready
returns-in-Some-clause-ready c =
    let found = next_found c.self.inside.rows.rows c.in-Some.place c.in-Some.ensures in
    let ready : IsSome (take_reply c.args.self.now) = subst IsSome (take_order c.self.inside.board c.self.inside.edits c.self.inside.rows.next_id (inputs_of c.self.inside.inputs) c.self.inside.rows.rows c.args.self.now c.in-Some.place found.0 c.self.view_is found.1) refl in
    search (rules, ready)
