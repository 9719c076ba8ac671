use Rattle.std.proofs.Common.{◌≡◌, map}
use Rattle.paris_book.specs.Marks.{recalled_data}
use Rattle.paris_book.specs.Entries.{with_data}
use Rattle.paris_book.specs.Among.{inputs_of}
use Rattle.paris_book.proofs.Releases.{release_whole, release_view}
use Rattle.paris_book.proofs.loose.Loose.release.Goals as goal

pub invariant_of-self : goal.invariant_of-self
invariant_of-self c =
    let rows : c.recall_all.new.rows.rows ≡ map (with_data recalled_data) c.self.inside.rows.rows = c.recall_all.ensures.rows in
    rw (c.recall_all.ensures.next_id, rows) (release_whole c.self.inside.board c.self.inside.edits c.self.inside.rows.next_id (inputs_of c.self.inside.inputs) c.self.inside.rows.rows c.self.invariant)

pub returns : goal.returns
returns c =
    let rows : c.recall_all.new.rows.rows ≡ map (with_data recalled_data) c.self.inside.rows.rows = c.recall_all.ensures.rows in
    rw c.recall_all.ensures.next_id (release_view c.self.inside.board c.self.inside.edits c.self.inside.rows.next_id (inputs_of c.self.inside.inputs) c.self.inside.rows.rows c.recall_all.new.rows.rows c.args.self.now rows c.self.view_is)
