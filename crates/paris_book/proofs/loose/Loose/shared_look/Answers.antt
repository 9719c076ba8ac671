use Rattle.paris_book.specs.Among.{inputs_of, shared_shown}
use Rattle.paris_book.proofs.Calls.{shown_is}
use Rattle.paris_book.proofs.loose.Loose.shared_look.Goals as goal

pub returns-clause-shown : goal.returns-clause-shown
returns-clause-shown c =
    shown_is c.self.inside.board c.self.inside.edits c.self.inside.rows.next_id (inputs_of c.self.inside.inputs) c.self.inside.rows.rows c.args.self.now c.args.name c.args.spot c.in_ok-key.key c.in_ok-place.place (shared_shown c.look_at.result) c.self.view_is c.self.invariant.shaped c.in_ok-key.ensures.declared c.in_ok-key.ensures.value c.in_ok-place.ensures.ok c.look_at.ensures.shown
