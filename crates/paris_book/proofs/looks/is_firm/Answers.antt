use Rattle.std.proofs.Common.{ap, ◌∙◌, sym}
use Rattle.std.specs.Option.{option_map}
use Rattle.paris_edits.specs.Rows.{is_settled}
use Rattle.paris_events.specs.Orders.{is_firm as is_firm_origin}
use Rattle.paris_book.specs.Entries.{machine_row}
use Rattle.paris_book.proofs.Entering.{origin_none, origin_row, origin_there}
use Rattle.paris_book.proofs.looks.is_firm.Goals as goal
use Rattle.paris_book.proofs.Shows.{firm_seen}

pub unreachable-requires : goal.unreachable-requires
unreachable-requires c =
    origin_there c.args.rows.now.rows c.args.place c.args.key.now c.in-Some.id.0 c.row.ensures.sound.distinct c.in-Some.ensures c.in-None-row.ensures.value

pub returns-in-None : goal.returns-in-None
returns-in-None c =
    sym (ap (λ o. is_firm_origin (option_map machine_row o)) (origin_none c.args.rows.now.rows c.args.place c.args.key.now c.in-None.ensures))
    ∙ sym (firm_seen c.args.rows.now.rows c.args.place c.args.key.now)

pub returns-in-Some-row : goal.returns-in-Some-row
returns-in-Some-row c =
    let o = origin_row c.args.rows.now.rows c.args.place c.args.key.now c.in-Some.id.0 c.in-Some-row.row.now c.row.ensures.sound.distinct c.in-Some.ensures c.in-Some-row.ensures.value in
    c.is_settled.ensures ∙ ap is_settled c.status.ensures ∙ sym (ap (λ o. is_firm_origin (option_map machine_row o)) o) ∙ sym (firm_seen c.args.rows.now.rows c.args.place c.args.key.now)
