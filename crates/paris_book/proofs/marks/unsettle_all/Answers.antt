use Rattle.std.proofs.Common.{refl, sym, ap, ◌∙◌, subst, take}
use Rattle.paris_program.specs.Program.{Program, AreOwn}
use Rattle.paris_book.specs.Entries.{ChangedAt}
use Rattle.paris_book.specs.Marks.{is_among, ids_in, unsettled_by_ids, stale_data}
use Rattle.paris_book.specs.Rows.{RowData}
use Rattle.paris_book.proofs.Holding.{placed_own}
use Rattle.paris_book.proofs.Unsettling.{unsettled_none, ids_more, unsettle_more, unsettle_none}
use Rattle.paris_book.proofs.marks.unsettle_all.Goals as goal
use Rattle.paris_book.proofs.marks.unsettle_all.Goals.{in-Some, in_default}

pub unsettle-requires-clause-own : goal.unsettle-requires-clause-own
unsettle-requires-clause-own c = placed_own c.loop-id.rows c.args.ids.now c.loop-id.id-index _ c.in-Some.place c.loop-id-test.true c.loop-id.invariant.own (sym c.in-Some.ensures.value)

pub loop-id-init : goal.loop-id-init
loop-id-init c = record { marked = unsettled_none c.args.number c.args.rows.now.rows; next_id = refl; own = c.requires }

pub loop-id-preserved : goal.loop-id-preserved
loop-id-preserved c =
    let more = ids_more c.args.ids.now c.loop-id.id-index _ c.loop-id-test.true in
    let so_far = ids_in (take c.loop-id.id-index c.args.ids.now) in
    elim c.match-place_of.branch [
      | in-Some w ↦ record {
        marked = unsettle_more c.args.number c.args.rows.now.rows c.loop-id.rows.rows c.match-place_of.rows.rows so_far _ w.in-Some.place c.len-len.ensures.sound.distinct c.loop-id.invariant.marked (sym w.in-Some.ensures.value) (subst (ChangedAt (stale_data c.args.number) c.loop-id.rows.rows w.in-Some.place) (sym (ap (λ (p : Program RowData). p.rows) w.rows-is)) w.unsettle.ensures.rows)
            ∙ ap (λ ids. unsettled_by_ids c.args.number ids c.args.rows.now.rows) (sym more);
        next_id = ap (λ (p : Program RowData). p.next_id) w.rows-is ∙ w.unsettle.ensures.next_id ∙ c.loop-id.invariant.next_id;
        own = subst (λ (p : Program RowData). AreOwn p (is_among (ids_in c.args.ids.now))) (sym w.rows-is) (w.unsettle.ensures.own (is_among (ids_in c.args.ids.now)) c.loop-id.invariant.own);
      }
      | in_default w ↦ record {
        marked = ap (λ (p : Program RowData). p.rows) w.rows-is
            ∙ unsettle_none c.args.number c.args.rows.now.rows c.loop-id.rows.rows so_far _ c.loop-id.invariant.marked (sym w.in_default.is ∙ c.place_of.ensures.value)
            ∙ ap (λ ids. unsettled_by_ids c.args.number ids c.args.rows.now.rows) (sym more);
        next_id = ap (λ (p : Program RowData). p.next_id) w.rows-is ∙ c.loop-id.invariant.next_id;
        own = subst (λ (p : Program RowData). AreOwn p (is_among (ids_in c.args.ids.now))) (sym w.rows-is) c.loop-id.invariant.own;
      }
    ]
