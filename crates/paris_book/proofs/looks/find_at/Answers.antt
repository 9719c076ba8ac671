use Rattle.std.proofs.Common.{◌∙◌, sym}
use Rattle.paris_book.specs.Among.{inputs_of}
use Rattle.paris_book.proofs.Shows.{kept_for, looks_at, look_start, look_seen}
use Rattle.paris_book.proofs.Entering.{origin_none, origin_row, origin_there}
use Rattle.paris_book.proofs.Naming.{row_source}
use Rattle.paris_book.proofs.looks.find_at.Goals as goal

pub unreachable-requires-in-None-row : goal.unreachable-requires-in-None-row
unreachable-requires-in-None-row c =
    origin_there c.args.rows.now.rows c.args.place c.args.key.now c.in-Some.id.0 c.row.ensures.sound.distinct c.in-Some.ensures c.in-None-row.ensures.value

pub look_at_row-requires : goal.look_at_row-requires
look_at_row-requires c =
    let o = origin_row c.args.rows.now.rows c.args.place c.args.key.now c.in-Some.id.0 c.in-Some-row.row.now c.row.ensures.sound.distinct c.in-Some.ensures c.in-Some-row.ensures.value in
    record { kept = kept_for (inputs_of c.args.inputs.now) c.args.rows.now.rows c.args.key.now c.args.place (c.in-Some.id.0, c.in-Some-row.row.now) c.requires.sound o }

pub returns-in-Some-row-clause-shown : goal.returns-in-Some-row-clause-shown
returns-in-Some-row-clause-shown c =
    let o = origin_row c.args.rows.now.rows c.args.place c.args.key.now c.in-Some.id.0 c.in-Some-row.row.now c.row.ensures.sound.distinct c.in-Some.ensures c.in-Some-row.ensures.value in
    (looks_at (inputs_of c.args.inputs.now) c.args.rows.now.rows c.args.key.now c.args.place (c.in-Some.id.0, c.in-Some-row.row.now) c.look_at_row.result c.requires.sound c.requires.fitted o c.look_at_row.ensures).0
    ∙ sym (look_seen (inputs_of c.args.inputs.now) c.args.rows.now.rows c.args.key.now c.args.place)

pub returns-in-Some-row-clause-fits : goal.returns-in-Some-row-clause-fits
returns-in-Some-row-clause-fits c =
    let o = origin_row c.args.rows.now.rows c.args.place c.args.key.now c.in-Some.id.0 c.in-Some-row.row.now c.row.ensures.sound.distinct c.in-Some.ensures c.in-Some-row.ensures.value in
    (looks_at (inputs_of c.args.inputs.now) c.args.rows.now.rows c.args.key.now c.args.place (c.in-Some.id.0, c.in-Some-row.row.now) c.look_at_row.result c.requires.sound c.requires.fitted o c.look_at_row.ensures).1

pub returns-in-Some-input_at-clause-shown : goal.returns-in-Some-input_at-clause-shown
returns-in-Some-input_at-clause-shown c = (look_start (inputs_of c.args.inputs.now) c.args.rows.now.rows c.args.key.now c.args.place c.in-Some-input_at.input.now c.requires.sound (origin_none c.args.rows.now.rows c.args.place c.args.key.now c.in-None.ensures) c.in-Some-input_at.ensures).0
    ∙ sym (look_seen (inputs_of c.args.inputs.now) c.args.rows.now.rows c.args.key.now c.args.place)

pub returns-in-Some-row-clause-source : goal.returns-in-Some-row-clause-source
returns-in-Some-row-clause-source c =
    let o = origin_row c.args.rows.now.rows c.args.place c.args.key.now c.in-Some.id.0 c.in-Some-row.row.now c.row.ensures.sound.distinct c.in-Some.ensures c.in-Some-row.ensures.value in
    row_source (inputs_of c.args.inputs.now) c.args.rows.now.rows c.args.place c.args.key.now (c.in-Some.id.0, c.in-Some-row.row.now) o c.source_in.result c.source_in.ensures
