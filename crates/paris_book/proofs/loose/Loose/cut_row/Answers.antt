use Rattle.std.proofs.Common.{sym, ◌∙◌}
use Rattle.paris_events.specs.State.{find_row}
use Rattle.paris_book.specs.Among.{inputs_of}
use Rattle.paris_book.proofs.TouchedEdits.{found_is, one_found, one_none}
use Rattle.paris_book.proofs.loose.Loose.cut_row.Goals as goal

pub returns-in-Some : goal.returns-in-Some
returns-in-Some c =
    c.cut_at.ensures.state
    ∙ sym (one_found c.args.self.now (find_row c.args.self.now c.args.id) c.in-Some.place (found_is c.self.inside.board c.self.inside.edits c.self.inside.rows.next_id (inputs_of c.self.inside.inputs) c.self.inside.rows.rows c.args.self.now c.args.id.0 c.self.view_is ∙ sym c.in-Some.ensures.value))

pub returns-in_default : goal.returns-in_default
returns-in_default c =
    one_none c.args.self.now (find_row c.args.self.now c.args.id) (found_is c.self.inside.board c.self.inside.edits c.self.inside.rows.next_id (inputs_of c.self.inside.inputs) c.self.inside.rows.rows c.args.self.now c.args.id.0 c.self.view_is ∙ sym c.in_default.ensures.value)
