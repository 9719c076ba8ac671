use Rattle.std.proofs.Common.{ℕ, Option, refl, sym, ap, ◌∙◌, subst}
use Rattle.std.specs.Prelude.{IsSome, insert}
use Rattle.std.specs.Option.{unwrap_or}
use Rattle.paris_model.specs.Instructions.{Plan}
use Rattle.paris_program.specs.Program.{place_in}
use Rattle.paris_depends.specs.Index.{footprint}
use Rattle.paris_book.specs.Marks.{data_plan}
use Rattle.paris_book.specs.SharedIndexes.{CanAddIn, indexed_in}
use Rattle.paris_program.proofs.Owning.{place_found}
use Rattle.paris_book.proofs.Indexing.{others_ids, added_all}
use Rattle.paris_book.proofs.program_rows.add_row.Goals as goal

pub add-requires-clause-there : goal.add-requires-clause-there
add-requires-clause-there c =
    subst IsSome (sym (place_found c.args.program.now.rows c.args.place (c.at.result.0.0, c.at.result.1.now) c.at.ensures.sound.distinct c.at.ensures.value)) refl

pub add-requires-clause-others : goal.add-requires-clause-others
add-requires-clause-others c =
    others_ids data_plan c.args.program.now.rows (indexed_in c.args.index.now) c.args.place (c.at.result.0.0, c.at.result.1.now) c.at.ensures.sound.distinct c.at.ensures.value c.requires.others

pub add-requires-clause-room : goal.add-requires-clause-room
add-requires-clause-room c =
    subst (λ (o : Option ℕ). CanAddIn c.args.index.now (unwrap_or o 0) (footprint c.args.plan))
    (sym (place_found c.args.program.now.rows c.args.place (c.at.result.0.0, c.at.result.1.now) c.at.ensures.sound.distinct c.at.ensures.value)) c.requires.room

pub returns : goal.returns
returns c =
    let rows = c.args.program.now.rows in
    let id = c.at.result.0.0 in
    let is = c.add.ensures ∙ ap (λ (p : Plan). insert (indexed_in c.args.index.now) (place_in rows id) (id, footprint p)) (sym (c.requires.plan (id, c.at.result.1.now) c.at.ensures.value)) in
    added_all data_plan rows (indexed_in c.args.index.now) (indexed_in c.add.new.self) c.args.place (id, c.at.result.1.now) c.at.ensures.sound.distinct c.at.ensures.value c.requires.others is
