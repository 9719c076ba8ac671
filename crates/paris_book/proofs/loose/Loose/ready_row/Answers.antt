use Rattle.std.proofs.lemmas.Option.{slice_get_within}
use Rattle.paris_book.specs.Among.{inputs_of}
use Rattle.paris_book.proofs.RanIds.{ready_id}
use Rattle.paris_book.proofs.Takes.{next_found}
use Rattle.paris_book.proofs.loose.Loose.ready_row.Goals as goal

pub at-requires : goal.at-requires
at-requires c =
    let es = c.self.inside.rows.rows in
    let found = next_found es c.in-Some.place c.in-Some.ensures in
    slice_get_within es c.in-Some.place found.0 found.2

pub returns : goal.returns
returns c = ready_id c.self.inside.board c.self.inside.edits c.self.inside.rows.next_id (inputs_of c.self.inside.inputs) c.self.inside.rows.rows c.args.self.now c.self.view_is c.in-Some.place c.in-Some.ensures (c.at.result.0.0, c.at.result.1.now) c.at.ensures.value
