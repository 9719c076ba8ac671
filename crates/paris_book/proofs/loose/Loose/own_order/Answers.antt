use Rattle.std.proofs.Common.{◌∙◌, arith}
use Rattle.std.proofs.lemmas.Result.{IfOk-weaker}
use Rattle.paris_book.specs.Among.{inputs_of}
use Rattle.paris_book.proofs.Finds.{entry_at}
use Rattle.paris_book.proofs.OwnOrders.{own_at}
use Rattle.paris_book.proofs.loose.Loose.own_order.Goals as goal

pub returns-clause-order : goal.returns-clause-order
returns-clause-order c =
    let e = entry_at c.self.inside.rows.rows c.args.place (omega arith) in
    IfOk-weaker c.order_at.result _ _
    (λ order own. own e.0 e.1 ∙ own_at c.self.inside.board c.self.inside.edits c.self.inside.rows.next_id (inputs_of c.self.inside.inputs) c.self.inside.rows.rows c.args.self.now c.args.place c.self.view_is e.0 e.1)
    c.order_at.ensures
