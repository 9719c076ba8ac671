use Rattle.std.proofs.Common.{ℕ, List, sym, ap, ◌∙◌, subst}
use Rattle.std.specs.List.{AllByRecursion}
use Rattle.paris_program.proofs.Edits.{row_at_place}
use Rattle.paris_depends.specs.Index.{Footprint, Index, CanChange, readers, writers}
use Rattle.paris_depends.specs.IndexInside.{IsRow}
use Rattle.paris_depends.specs.declared.sides.Side.TheVariants.{Writers, Readers}
use Rattle.paris_depends.proofs.Kept.{all-remove}
use Rattle.paris_depends.proofs.RowsOnce.{once-on}
use Rattle.paris_depends.proofs.index.Index.remove.Goals as goal

pub take_all_out-requires-clause-room : goal.take_all_out-requires-clause-room
take_all_out-requires-clause-room g c = λ r here.
    let can = subst (λ (i : Index). CanChange i c.args.id.0) (sym c.self.view_is) c.requires.own in
    (can.lists r.1 (row_at_place c.self.inside.table.rows c.args.id.0 c.unwrap-place.result r (sym c.place_of.ensures.value ∙ c.unwrap-place.ensures) here)).writers

pub take_all_out-requires-clause-once : goal.take_all_out-requires-clause-once
take_all_out-requires-clause-once g c = once-on Writers c.self.inside.table.rows c.self.invariant.sound

pub take_all_out-requires-2-clause-room : goal.take_all_out-requires-2-clause-room
take_all_out-requires-2-clause-room g c = λ r here.
    let can = subst (λ (i : Index). CanChange i c.args.id.0) (sym c.self.view_is) c.requires.own in
    (can.lists r.1 (row_at_place c.self.inside.table.rows c.args.id.0 c.unwrap-place.result r (sym c.place_of.ensures.value ∙ c.unwrap-place.ensures) here)).readers

pub take_all_out-requires-2-clause-once : goal.take_all_out-requires-2-clause-once
take_all_out-requires-2-clause-once g c = once-on Readers c.self.inside.table.rows c.self.invariant.sound

pub invariant_of-self : goal.invariant_of-self
invariant_of-self g c =
    let left = sym c.take_out.ensures in
    record {
      writers = λ k. c.take_all_out.ensures.ids k ∙ ap (λ (rows : List (ℕ × Footprint)). writers rows k) left;
      readers = λ k. c.take_all_out-2.ensures.ids k ∙ ap (λ (rows : List (ℕ × Footprint)). readers rows k) left;
      sound = subst (λ (rows : List (ℕ × Footprint)). AllByRecursion (λ (r : ℕ × Footprint). IsRow r.1) rows) left (all-remove (λ (r : ℕ × Footprint). IsRow r.1) c.self.inside.table.rows c.unwrap-place.result c.self.invariant.sound);
    }
