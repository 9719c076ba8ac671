use Rattle.std.proofs.Common.{sym, ap, ◌∙◌, refl}
use Rattle.std.specs.Option.{option_map}
use Rattle.paris_names.specs.declared.ids.RowId.{RowId}
use Rattle.paris_depends.specs.Sides.{test_of}
use Rattle.paris_depends.proofs.Places.{probed, no_entry, same_length}
use Rattle.paris_depends.proofs.reaches.place_of_entry.Goals as goal

pub unwrap-requires : goal.unwrap-requires
unwrap-requires g c =
    let entry = sym c.requires.entry ∙ ap (option_map (λ (id : RowId). id.0)) c.in-Some.is in
    let found = probed c.args.program.now.rows (test_of c.args.side.now c.args.key.now) c.args.index.now.rows c.args.i c.in-Some.id.0 c.requires.of c.place_of.ensures.sound.distinct entry in
    rw (c.place_of.ensures.value ∙ found) refl

pub returns-in-Some : goal.returns-in-Some
returns-in-Some g c =
    let entry = sym c.requires.entry ∙ ap (option_map (λ (id : RowId). id.0)) c.in-Some.is in
    let found = probed c.args.program.now.rows (test_of c.args.side.now c.args.key.now) c.args.index.now.rows c.args.i c.in-Some.id.0 c.requires.of c.place_of.ensures.sound.distinct entry in
    let there = sym c.unwrap.ensures ∙ c.place_of.ensures.value ∙ found in
    cc there

pub returns-in-None : goal.returns-in-None
returns-in-None g c =
    let entry = sym c.requires.entry ∙ ap (option_map (λ (id : RowId). id.0)) c.in-None.is in
    c.len-len.ensures.value ∙ same_length c.args.program.now.rows c.args.index.now.rows c.requires.of ∙ sym (no_entry (test_of c.args.side.now c.args.key.now) c.args.index.now.rows c.args.i entry)
