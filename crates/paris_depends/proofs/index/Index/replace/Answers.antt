use Rattle.std.proofs.Common.{◌<◌, ℕ, List, Option, length, sym, ap, ◌∙◌, subst}
use Rattle.std.specs.Prelude.{IfSome}
use Rattle.std.specs.List.{AllByRecursion}
use Rattle.paris_program.specs.Program.{id_at, ids_of}
use Rattle.paris_program.proofs.CallerLemmas.{ids-with_row}
use Rattle.paris_program.proofs.Edits.{row_at_place}
use Rattle.paris_depends.specs.Index.{Footprint, Index, CanChange, HasRoom, footprint}
use Rattle.paris_depends.specs.IndexInside.{IsRow}
use Rattle.paris_depends.specs.Lists.{HasRoomFor}
use Rattle.paris_depends.specs.Sides.{entries}
use Rattle.paris_depends.specs.declared.sides.Side.TheVariants.{Writers, Readers}
use Rattle.paris_depends.proofs.Edited.{all-written, only_there, room_kept, written}
use Rattle.paris_depends.proofs.RowsOnce.{footprint-sound, once-on}
use Rattle.paris_depends.proofs.index.Index.replace.Goals as goal

pub take_all_out-requires-clause-room : goal.take_all_out-requires-clause-room
take_all_out-requires-clause-room g c = λ r here.
    let can = subst (λ (i : Index). CanChange i c.args.id.0) (sym c.self.view_is) c.requires.own in
    (can.lists r.1 (row_at_place c.self.inside.table.rows c.args.id.0 c.unwrap-place.result r (sym c.place_of.ensures.value ∙ c.unwrap-place.ensures) here)).writers

pub take_all_out-requires-clause-once : goal.take_all_out-requires-clause-once
take_all_out-requires-clause-once g c = once-on Writers c.self.inside.table.rows c.self.invariant.sound

pub take_all_out-requires-2-clause-room : goal.take_all_out-requires-2-clause-room
take_all_out-requires-2-clause-room g c = λ r here.
    let can = subst (λ (i : Index). CanChange i c.args.id.0) (sym c.self.view_is) c.requires.own in
    (can.lists r.1 (row_at_place c.self.inside.table.rows c.args.id.0 c.unwrap-place.result r (sym c.place_of.ensures.value ∙ c.unwrap-place.ensures) here)).readers

pub take_all_out-requires-2-clause-once : goal.take_all_out-requires-2-clause-once
take_all_out-requires-2-clause-once g c = once-on Readers c.self.inside.table.rows c.self.invariant.sound

pub put_all-requires-clause-of : goal.put_all-requires-clause-of
put_all-requires-clause-of g c =
    let rows : List (ℕ × Footprint) = c.self.inside.table.rows in
    c.requires.of
    ∙ sym (ap (λ (i : Index). ids_of i.rows) c.self.view_is)
    ∙ sym (ids-with_row rows c.unwrap-place.result (footprint c.args.plan))
    ∙ ap (λ (l : List (ℕ × Footprint)). ids_of l) (sym c.replace.ensures)

pub put_all-requires-clause-lists : goal.put_all-requires-clause-lists
put_all-requires-clause-lists g c = λ k.
    let rows : List (ℕ × Footprint) = c.self.inside.table.rows in
    let place = c.unwrap-place.result in
    let row : ℕ × Footprint = (id_at rows place, footprint c.args.plan) in
    let within = subst (λ (o : Option ℕ). IfSome o (λ place. place < length rows)) c.unwrap-place.ensures c.place_of.ensures.within in
    let facts = written rows c.replace.new.self.rows place row within c.replace.ensures in
    c.take_all_out.ensures.ids k ∙ ap (λ (l : List (ℕ × Footprint)). entries Writers l k) (sym facts.1)

pub put_all-requires-clause-room : goal.put_all-requires-clause-room
put_all-requires-clause-room g c =
    let rows : List (ℕ × Footprint) = c.self.inside.table.rows in
    let place = c.unwrap-place.result in
    let row : ℕ × Footprint = (id_at rows place, footprint c.args.plan) in
    let within = subst (λ (o : Option ℕ). IfSome o (λ place. place < length rows)) c.unwrap-place.ensures c.place_of.ensures.within in
    let facts = written rows c.replace.new.self.rows place row within c.replace.ensures in
    let room = subst (λ (i : Index). HasRoom i.room (footprint c.args.plan)) (sym c.self.view_is) c.requires.room in
    only_there (λ (r : ℕ × Footprint). HasRoomFor c.take_all_out.new.lists r.1.written) c.replace.new.self.rows place row facts.2
    (room_kept c.self.inside.writers c.take_all_out.new.lists (footprint c.args.plan).written c.take_all_out.ensures.more room.writers)

pub put_all-requires-clause-once : goal.put_all-requires-clause-once
put_all-requires-clause-once g c =
    let rows : List (ℕ × Footprint) = c.self.inside.table.rows in
    let place = c.unwrap-place.result in
    let row : ℕ × Footprint = (id_at rows place, footprint c.args.plan) in
    let sound = subst (λ (l : List (ℕ × Footprint)). AllByRecursion (λ (r : ℕ × Footprint). IsRow r.1) l) (sym c.replace.ensures) (all-written (λ (r : ℕ × Footprint). IsRow r.1) rows place row (footprint-sound c.args.plan) c.self.invariant.sound) in
    once-on Writers c.replace.new.self.rows sound

pub put_all-requires-2-clause-of : goal.put_all-requires-2-clause-of
put_all-requires-2-clause-of g c =
    let rows : List (ℕ × Footprint) = c.self.inside.table.rows in
    c.requires.of
    ∙ sym (ap (λ (i : Index). ids_of i.rows) c.self.view_is)
    ∙ sym (ids-with_row rows c.unwrap-place.result (footprint c.args.plan))
    ∙ ap (λ (l : List (ℕ × Footprint)). ids_of l) (sym c.replace.ensures)

pub put_all-requires-2-clause-lists : goal.put_all-requires-2-clause-lists
put_all-requires-2-clause-lists g c = λ k.
    let rows : List (ℕ × Footprint) = c.self.inside.table.rows in
    let place = c.unwrap-place.result in
    let row : ℕ × Footprint = (id_at rows place, footprint c.args.plan) in
    let within = subst (λ (o : Option ℕ). IfSome o (λ place. place < length rows)) c.unwrap-place.ensures c.place_of.ensures.within in
    let facts = written rows c.replace.new.self.rows place row within c.replace.ensures in
    c.take_all_out-2.ensures.ids k ∙ ap (λ (l : List (ℕ × Footprint)). entries Readers l k) (sym facts.1)

pub put_all-requires-2-clause-room : goal.put_all-requires-2-clause-room
put_all-requires-2-clause-room g c =
    let rows : List (ℕ × Footprint) = c.self.inside.table.rows in
    let place = c.unwrap-place.result in
    let row : ℕ × Footprint = (id_at rows place, footprint c.args.plan) in
    let within = subst (λ (o : Option ℕ). IfSome o (λ place. place < length rows)) c.unwrap-place.ensures c.place_of.ensures.within in
    let facts = written rows c.replace.new.self.rows place row within c.replace.ensures in
    let room = subst (λ (i : Index). HasRoom i.room (footprint c.args.plan)) (sym c.self.view_is) c.requires.room in
    only_there (λ (r : ℕ × Footprint). HasRoomFor c.take_all_out-2.new.lists r.1.read) c.replace.new.self.rows place row facts.2
    (room_kept c.self.inside.readers c.take_all_out-2.new.lists (footprint c.args.plan).read c.take_all_out-2.ensures.more room.readers)

pub put_all-requires-2-clause-once : goal.put_all-requires-2-clause-once
put_all-requires-2-clause-once g c =
    let rows : List (ℕ × Footprint) = c.self.inside.table.rows in
    let place = c.unwrap-place.result in
    let row : ℕ × Footprint = (id_at rows place, footprint c.args.plan) in
    let sound = subst (λ (l : List (ℕ × Footprint)). AllByRecursion (λ (r : ℕ × Footprint). IsRow r.1) l) (sym c.replace.ensures) (all-written (λ (r : ℕ × Footprint). IsRow r.1) rows place row (footprint-sound c.args.plan) c.self.invariant.sound) in
    once-on Readers c.replace.new.self.rows sound

pub invariant_of-self : goal.invariant_of-self
invariant_of-self g c =
    let rows : List (ℕ × Footprint) = c.self.inside.table.rows in
    let place = c.unwrap-place.result in
    let row : ℕ × Footprint = (id_at rows place, footprint c.args.plan) in
    let sound = subst (λ (l : List (ℕ × Footprint)). AllByRecursion (λ (r : ℕ × Footprint). IsRow r.1) l) (sym c.replace.ensures) (all-written (λ (r : ℕ × Footprint). IsRow r.1) rows place row (footprint-sound c.args.plan) c.self.invariant.sound) in
    record { writers = c.put_all.ensures; readers = c.put_all-2.ensures; sound = sound }
