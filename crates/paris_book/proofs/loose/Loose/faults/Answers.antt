use Rattle.std.proofs.Common.{◌∙◌}
use Rattle.paris_book.specs.Among.{inputs_of}
use Rattle.paris_book.proofs.RefusedRows.{faults_seen}
use Rattle.paris_book.proofs.loose.Loose.faults.Goals as goal

pub returns : goal.returns
returns c =
    c.new.ensures ∙ c.in_ok-faults.ensures
    ∙ faults_seen c.self.inside.board c.self.inside.edits c.self.inside.rows.next_id (inputs_of c.self.inside.inputs) c.self.inside.rows.rows c.args.self.now c.self.view_is c.self.invariant
