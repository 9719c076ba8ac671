use Rattle.paris_book.specs.Among.{inputs_of}
use Rattle.paris_book.proofs.Stopping.{settled_firm}
use Rattle.paris_book.proofs.loose.Loose.settled_are_firm.Goals as goal

pub returns : goal.returns
returns c = settled_firm c.self.inside.board c.self.inside.edits c.self.inside.rows.next_id (inputs_of c.self.inside.inputs) c.self.inside.rows.rows c.args.self.now c.self.view_is c.self.invariant.sound
