use Rattle.std.proofs.Common.{◌∙◌, rules}
use Rattle.std.proofs.lemmas.Option.{slice_get_within}
use Rattle.std.proofs.lemmas.Result.{IfOk-weaker}
use Rattle.paris_book.specs.Among.{inputs_of}
use Rattle.paris_book.proofs.OrdersFor.{none_refused, none_for, entry_for, own_for, is_some_for}
use Rattle.paris_book.proofs.loose.Loose.order_for.Goals as goal

pub order_at-requires-clause-within : goal.order_at-requires-clause-within
order_at-requires-clause-within c =
    let e = entry_for c.self.inside.board c.self.inside.edits c.self.inside.rows.next_id (inputs_of c.self.inside.inputs) c.self.inside.rows.rows c.args.self.now c.self.view_is c.args.name c.args.spot c.in-Ok.key c.in-Ok.place c.in-Ok.ensures.key c.in-Ok.ensures.place c.in-Some.at c.in-Some.ensures in
    slice_get_within c.self.inside.rows.rows c.in-Some.at e.0 e.2

pub returns-in-Err-clause-order : goal.returns-in-Err-clause-order
returns-in-Err-clause-order c = none_refused c.args.self.now c.args.name c.args.spot _ c.in-Err.ensures.refused

pub returns-in-None-clause-order : goal.returns-in-None-clause-order
returns-in-None-clause-order c =
    none_for c.self.inside.board c.self.inside.edits c.self.inside.rows.next_id (inputs_of c.self.inside.inputs) c.self.inside.rows.rows c.args.self.now c.self.view_is c.args.name c.args.spot c.in-Ok.key c.in-Ok.place c.in-Ok.ensures.key c.in-Ok.ensures.place c.in-None.ensures

pub returns-in-Some-clause-order : goal.returns-in-Some-clause-order
returns-in-Some-clause-order c =
    let e = entry_for c.self.inside.board c.self.inside.edits c.self.inside.rows.next_id (inputs_of c.self.inside.inputs) c.self.inside.rows.rows c.args.self.now c.self.view_is c.args.name c.args.spot c.in-Ok.key c.in-Ok.place c.in-Ok.ensures.key c.in-Ok.ensures.place c.in-Some.at c.in-Some.ensures in
    IfOk-weaker c.order_at.result _ _
    (λ order own. own e.0 e.2 ∙ own_for c.self.inside.board c.self.inside.edits c.self.inside.rows.next_id (inputs_of c.self.inside.inputs) c.self.inside.rows.rows c.args.self.now c.self.view_is c.args.name c.args.spot c.in-Ok.key c.in-Ok.place c.in-Ok.ensures.key c.in-Ok.ensures.place c.in-Some.at c.in-Some.ensures)
    c.order_at.ensures

pub returns-in-Some-clause-ready : goal.returns-in-Some-clause-ready
returns-in-Some-clause-ready c =
    let ready = is_some_for c.self.inside.board c.self.inside.edits c.self.inside.rows.next_id (inputs_of c.self.inside.inputs) c.self.inside.rows.rows c.args.self.now c.self.view_is c.args.name c.args.spot c.in-Ok.key c.in-Ok.place c.in-Ok.ensures.key c.in-Ok.ensures.place c.in-Some.at c.in-Some.ensures in
    search (rules, ready)
