use Rattle.paris_book.specs.Among.{inputs_of}
use Rattle.paris_book.proofs.Entering.{origin_row, origin_there}
use Rattle.paris_book.proofs.Naming.{row_source}
use Rattle.paris_book.proofs.looks.source_at.Goals as goal

pub unreachable-requires : goal.unreachable-requires
unreachable-requires c =
    origin_there c.args.rows.now.rows c.args.place c.args.key.now c.in-Some.id.0 c.row.ensures.sound.distinct c.in-Some.ensures c.in-None-row.ensures.value

pub returns-in-Some-row : goal.returns-in-Some-row
returns-in-Some-row c =
    let o = origin_row c.args.rows.now.rows c.args.place c.args.key.now c.in-Some.id.0 c.in-Some-row.row.now c.row.ensures.sound.distinct c.in-Some.ensures c.in-Some-row.ensures.value in
    row_source (inputs_of c.args.inputs.now) c.args.rows.now.rows c.args.place c.args.key.now (c.in-Some.id.0, c.in-Some-row.row.now) o c.source_in.result c.source_in.ensures
