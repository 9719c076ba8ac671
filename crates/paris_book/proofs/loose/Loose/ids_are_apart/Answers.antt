use Rattle.paris_book.specs.Among.{inputs_of}
use Rattle.paris_book.proofs.RowIds.{rows_apart}
use Rattle.paris_book.proofs.loose.Loose.ids_are_apart.Goals as goal

pub returns : goal.returns
returns c = rows_apart c.self.inside.board c.self.inside.edits c.self.inside.rows.next_id (inputs_of c.self.inside.inputs) c.self.inside.rows.rows c.args.self.now c.self.view_is c.self.invariant
