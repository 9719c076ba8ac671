use Rattle.std.proofs.Common.{ℕ, List, sym, ap, ◌∙◌, subst, arith}
use Rattle.std.specs.List.{AllByRecursion}
use Rattle.paris_program.specs.Program.{ids_of, place_in}
use Rattle.paris_depends.specs.Index.{CanAdd, Footprint, Index, footprint}
use Rattle.paris_depends.specs.IndexInside.{IsRow}
use Rattle.paris_depends.specs.Lists.{HasRoomFor}
use Rattle.paris_depends.specs.Sides.{entries}
use Rattle.paris_depends.specs.declared.sides.Side.TheVariants.{Writers, Readers}
use Rattle.paris_depends.proofs.Edited.{added, all_ids, only_there}
use Rattle.paris_depends.proofs.Kept.{all-insert}
use Rattle.paris_depends.proofs.NewRows.{one_fewer, others_are}
use Rattle.paris_depends.proofs.RowsOnce.{footprint-sound, once-on}
use Rattle.paris_depends.proofs.index.Index.add.Goals as goal

pub put-requires-clause-few : goal.put-requires-clause-few
put-requires-clause-few g c =
    let at = sym c.place_of.ensures.value ∙ c.unwrap-place.ensures in
    let fewer = one_fewer c.args.program.now.rows c.self.inside.table.rows c.args.self.now.rows c.args.id.0 c.unwrap-place.result at c.requires.others (ap (λ (i : Index). i.rows) c.self.view_is) in
    omega (arith, fewer.1, c.len-len.ensures.value, c.len-len.ensures.few)

pub put_all-requires-clause-of : goal.put_all-requires-clause-of
put_all-requires-clause-of g c =
    let program = c.args.program.now.rows in
    let rows : List (ℕ × Footprint) = c.self.inside.table.rows in
    let place = c.unwrap-place.result in
    let at = sym c.place_of.ensures.value ∙ c.unwrap-place.ensures in
    let others = others_are program rows c.args.self.now.rows c.args.id.0 place at c.requires.others (ap (λ (i : Index). i.rows) c.self.view_is) in
    all_ids program rows c.args.id.0 place (footprint c.args.plan) at others ∙ ap (λ (l : List (ℕ × Footprint)). ids_of l) (sym c.put.ensures)

pub put_all-requires-clause-within : goal.put_all-requires-clause-within
put_all-requires-clause-within g c =
    let rows : List (ℕ × Footprint) = c.self.inside.table.rows in
    let place = c.unwrap-place.result in
    let row : ℕ × Footprint = (c.args.id.0, footprint c.args.plan) in
    let at = sym c.place_of.ensures.value ∙ c.unwrap-place.ensures in
    let fewer = one_fewer c.args.program.now.rows rows c.args.self.now.rows c.args.id.0 place at c.requires.others (ap (λ (i : Index). i.rows) c.self.view_is) in
    let facts = added rows c.put.new.self.rows place row (omega (arith, fewer.0, fewer.1)) c.put.ensures in
    facts.0

pub put_all-requires-clause-lists : goal.put_all-requires-clause-lists
put_all-requires-clause-lists g c = λ k.
    let rows : List (ℕ × Footprint) = c.self.inside.table.rows in
    let place = c.unwrap-place.result in
    let row : ℕ × Footprint = (c.args.id.0, footprint c.args.plan) in
    let at = sym c.place_of.ensures.value ∙ c.unwrap-place.ensures in
    let fewer = one_fewer c.args.program.now.rows rows c.args.self.now.rows c.args.id.0 place at c.requires.others (ap (λ (i : Index). i.rows) c.self.view_is) in
    let facts = added rows c.put.new.self.rows place row (omega (arith, fewer.0, fewer.1)) c.put.ensures in
    c.self.invariant.writers k ∙ ap (λ (l : List (ℕ × Footprint)). entries Writers l k) (sym facts.1)

pub put_all-requires-clause-room : goal.put_all-requires-clause-room
put_all-requires-clause-room g c =
    let rows : List (ℕ × Footprint) = c.self.inside.table.rows in
    let place = c.unwrap-place.result in
    let row : ℕ × Footprint = (c.args.id.0, footprint c.args.plan) in
    let at = sym c.place_of.ensures.value ∙ c.unwrap-place.ensures in
    let fewer = one_fewer c.args.program.now.rows rows c.args.self.now.rows c.args.id.0 place at c.requires.others (ap (λ (i : Index). i.rows) c.self.view_is) in
    let facts = added rows c.put.new.self.rows place row (omega (arith, fewer.0, fewer.1)) c.put.ensures in
    let can = subst (λ (i : Index). CanAdd i.room (place_in c.args.program.now.rows c.args.id.0) (footprint c.args.plan)) (sym c.self.view_is) c.requires.room in
    only_there (λ (r : ℕ × Footprint). HasRoomFor c.self.inside.writers r.1.written) c.put.new.self.rows place row facts.2 can.lists.writers

pub put_all-requires-clause-once : goal.put_all-requires-clause-once
put_all-requires-clause-once g c =
    let rows : List (ℕ × Footprint) = c.self.inside.table.rows in
    let place = c.unwrap-place.result in
    let row : ℕ × Footprint = (c.args.id.0, footprint c.args.plan) in
    let sound = subst (λ (l : List (ℕ × Footprint)). AllByRecursion (λ (r : ℕ × Footprint). IsRow r.1) l) (sym c.put.ensures) (all-insert (λ (r : ℕ × Footprint). IsRow r.1) rows place row (footprint-sound c.args.plan) c.self.invariant.sound) in
    once-on Writers c.put.new.self.rows sound

pub put_all-requires-2-clause-of : goal.put_all-requires-2-clause-of
put_all-requires-2-clause-of g c =
    let program = c.args.program.now.rows in
    let rows : List (ℕ × Footprint) = c.self.inside.table.rows in
    let place = c.unwrap-place.result in
    let at = sym c.place_of.ensures.value ∙ c.unwrap-place.ensures in
    let others = others_are program rows c.args.self.now.rows c.args.id.0 place at c.requires.others (ap (λ (i : Index). i.rows) c.self.view_is) in
    all_ids program rows c.args.id.0 place (footprint c.args.plan) at others ∙ ap (λ (l : List (ℕ × Footprint)). ids_of l) (sym c.put.ensures)

pub put_all-requires-2-clause-within : goal.put_all-requires-2-clause-within
put_all-requires-2-clause-within g c =
    let rows : List (ℕ × Footprint) = c.self.inside.table.rows in
    let place = c.unwrap-place.result in
    let row : ℕ × Footprint = (c.args.id.0, footprint c.args.plan) in
    let at = sym c.place_of.ensures.value ∙ c.unwrap-place.ensures in
    let fewer = one_fewer c.args.program.now.rows rows c.args.self.now.rows c.args.id.0 place at c.requires.others (ap (λ (i : Index). i.rows) c.self.view_is) in
    let facts = added rows c.put.new.self.rows place row (omega (arith, fewer.0, fewer.1)) c.put.ensures in
    facts.0

pub put_all-requires-2-clause-lists : goal.put_all-requires-2-clause-lists
put_all-requires-2-clause-lists g c = λ k.
    let rows : List (ℕ × Footprint) = c.self.inside.table.rows in
    let place = c.unwrap-place.result in
    let row : ℕ × Footprint = (c.args.id.0, footprint c.args.plan) in
    let at = sym c.place_of.ensures.value ∙ c.unwrap-place.ensures in
    let fewer = one_fewer c.args.program.now.rows rows c.args.self.now.rows c.args.id.0 place at c.requires.others (ap (λ (i : Index). i.rows) c.self.view_is) in
    let facts = added rows c.put.new.self.rows place row (omega (arith, fewer.0, fewer.1)) c.put.ensures in
    c.self.invariant.readers k ∙ ap (λ (l : List (ℕ × Footprint)). entries Readers l k) (sym facts.1)

pub put_all-requires-2-clause-room : goal.put_all-requires-2-clause-room
put_all-requires-2-clause-room g c =
    let rows : List (ℕ × Footprint) = c.self.inside.table.rows in
    let place = c.unwrap-place.result in
    let row : ℕ × Footprint = (c.args.id.0, footprint c.args.plan) in
    let at = sym c.place_of.ensures.value ∙ c.unwrap-place.ensures in
    let fewer = one_fewer c.args.program.now.rows rows c.args.self.now.rows c.args.id.0 place at c.requires.others (ap (λ (i : Index). i.rows) c.self.view_is) in
    let facts = added rows c.put.new.self.rows place row (omega (arith, fewer.0, fewer.1)) c.put.ensures in
    let can = subst (λ (i : Index). CanAdd i.room (place_in c.args.program.now.rows c.args.id.0) (footprint c.args.plan)) (sym c.self.view_is) c.requires.room in
    only_there (λ (r : ℕ × Footprint). HasRoomFor c.self.inside.readers r.1.read) c.put.new.self.rows place row facts.2 can.lists.readers

pub put_all-requires-2-clause-once : goal.put_all-requires-2-clause-once
put_all-requires-2-clause-once g c =
    let rows : List (ℕ × Footprint) = c.self.inside.table.rows in
    let place = c.unwrap-place.result in
    let row : ℕ × Footprint = (c.args.id.0, footprint c.args.plan) in
    let sound = subst (λ (l : List (ℕ × Footprint)). AllByRecursion (λ (r : ℕ × Footprint). IsRow r.1) l) (sym c.put.ensures) (all-insert (λ (r : ℕ × Footprint). IsRow r.1) rows place row (footprint-sound c.args.plan) c.self.invariant.sound) in
    once-on Readers c.put.new.self.rows sound

pub invariant_of-self : goal.invariant_of-self
invariant_of-self g c =
    let rows : List (ℕ × Footprint) = c.self.inside.table.rows in
    let place = c.unwrap-place.result in
    let row : ℕ × Footprint = (c.args.id.0, footprint c.args.plan) in
    let sound = subst (λ (l : List (ℕ × Footprint)). AllByRecursion (λ (r : ℕ × Footprint). IsRow r.1) l) (sym c.put.ensures) (all-insert (λ (r : ℕ × Footprint). IsRow r.1) rows place row (footprint-sound c.args.plan) c.self.invariant.sound) in
    record { writers = c.put_all.ensures; readers = c.put_all-2.ensures; sound = sound }
