use Rattle.std.proofs.Common.{List, ap, rules, refl, ◌∙◌, subst}
use Rattle.std.proofs.Math.Path.{ap₂}
use Rattle.std.specs.Prelude.{not, IsSome}
use Rattle.paris_events.specs.Orders.{take_reply}
use Rattle.paris_book.specs.Entries.{Entry}
use Rattle.paris_book.specs.Among.{inputs_of}
use Rattle.std.proofs.lemmas.Option.{slice_get_within}
use Rattle.paris_book.proofs.Inserts.{state_of}
use Rattle.paris_book.proofs.Settling.{take_whole}
use Rattle.paris_book.proofs.Takes.{next_found, ready_own, ready_unsettled, none_order, none_state, take_order, take_state}
use Rattle.paris_book.proofs.loose.Loose.take.Goals as goal

pub order_at-requires-clause-within : goal.order_at-requires-clause-within
order_at-requires-clause-within c =
    let found = next_found c.self.inside.rows.rows c.in-Some.place c.in-Some.ensures in
    slice_get_within c.self.inside.rows.rows c.in-Some.place found.0 found.2

pub hand_out-requires : goal.hand_out-requires
hand_out-requires c =
    let found = next_found c.self.inside.rows.rows c.in-Some.place c.in-Some.ensures in
    record { row = found.0; there = found.2; unsettled = ap not (ready_unsettled c.self.inside.rows.rows c.in-Some.place found.0 found.1) }

pub invariant_of-self : goal.invariant_of-self
invariant_of-self c =
    let found = next_found c.self.inside.rows.rows c.in-Some.place c.in-Some.ensures in
    let put = c.hand_out.ensures.rows found.0 found.2 in
    rw (c.hand_out.ensures.next_id, put) (take_whole c.self.inside.board c.self.inside.edits c.self.inside.rows.next_id (inputs_of c.self.inside.inputs) c.self.inside.rows.rows c.in-Some.place found.0 found.2 (ready_unsettled c.self.inside.rows.rows c.in-Some.place found.0 found.1) c.self.invariant)

pub returns-in_default-clause-order : goal.returns-in_default-clause-order
returns-in_default-clause-order c = none_order c.self.inside.board c.self.inside.edits c.self.inside.rows.next_id (inputs_of c.self.inside.inputs) c.self.inside.rows.rows c.args.self.now c.self.view_is c.in_default.ensures

pub returns-in_default-clause-state : goal.returns-in_default-clause-state
returns-in_default-clause-state c = none_state c.self.inside.board c.self.inside.edits c.self.inside.rows.next_id (inputs_of c.self.inside.inputs) c.self.inside.rows.rows c.args.self.now c.self.view_is c.in_default.ensures

pub returns-clause-order : goal.returns-clause-order
returns-clause-order c =
    let found = next_found c.self.inside.rows.rows c.in-Some.place c.in-Some.ensures in
    c.in_ok-order.ensures found.0 found.2
    ∙ ready_own (inputs_of c.self.inside.inputs) c.self.inside.rows.rows c.in-Some.place found.0 found.1
    ∙ take_order c.self.inside.board c.self.inside.edits c.self.inside.rows.next_id (inputs_of c.self.inside.inputs) c.self.inside.rows.rows c.args.self.now c.in-Some.place found.0 c.self.view_is found.1

pub returns-clause-state : goal.returns-clause-state
returns-clause-state c =
    let found = next_found c.self.inside.rows.rows c.in-Some.place c.in-Some.ensures in
    let put = c.hand_out.ensures.rows found.0 found.2 in
    ap₂ (λ next (es : List Entry). state_of c.self.inside.board c.self.inside.edits next (inputs_of c.self.inside.inputs) es) c.hand_out.ensures.next_id put
    ∙ take_state c.self.inside.board c.self.inside.edits c.self.inside.rows.next_id (inputs_of c.self.inside.inputs) c.self.inside.rows.rows c.args.self.now c.in-Some.place found.0 c.self.view_is found.1

pub returns-in_err-order-clause-ready : goal.returns-in_err-order-clause-ready
returns-in_err-order-clause-ready c =
    let found = next_found c.self.inside.rows.rows c.in-Some.place c.in-Some.ensures in
    let ready : IsSome (take_reply c.args.self.now) = subst IsSome (take_order c.self.inside.board c.self.inside.edits c.self.inside.rows.next_id (inputs_of c.self.inside.inputs) c.self.inside.rows.rows c.args.self.now c.in-Some.place found.0 c.self.view_is found.1) refl in
    search (rules, ready)
