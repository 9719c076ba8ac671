use Rattle.paris_book.specs.Among.{inputs_of}
use Rattle.paris_book.proofs.Directly.{now_direct}
use Rattle.paris_book.proofs.loose.Loose.now_is_direct.Goals as goal

pub returns : goal.returns
returns c =
    now_direct c.self.inside.board c.self.inside.edits c.self.inside.rows.next_id (inputs_of c.self.inside.inputs) c.self.inside.rows.rows c.args.self.now c.self.view_is c.self.invariant c.inputs_fit.ensures c.actions_fit.ensures c.run_is_direct.ensures
