use Rattle.std.proofs.Common.{List, map, ◌≤◌, refl, subst, arith, length, ◌≡◌, ◌+◌, ◌++◌, sym, ap, ap₂, ◌∙◌, take, drop, remove}
use Rattle.paris_names.specs.Keys.{has_key}
use Rattle.paris_model.specs.Instructions.{writes}
use Rattle.paris_depends.proofs.FewKeys.{writes-few}
use Rattle.paris_depends.specs.Sweeps.{touched}
use Rattle.paris_events.specs.State.{State, find_row}
use Rattle.paris_events.specs.CutOff.{IsAtRest}
use Rattle.paris_events.specs.Edits.{delete_fault, deleted_from}
use Rattle.paris_names.specs.declared.ids.RowId.{RowId}
use Rattle.paris_program.specs.Program.{AreOwn, place_in}
use Rattle.paris_book.specs.Entries.{Entry, machine_row}
use Rattle.paris_book.specs.TouchedIds.{touched_ids}
use Rattle.paris_book.specs.Among.{inputs_of}
use Rattle.paris_book.specs.Marks.{is_among, data_plan, unsettled_by_ids, ids_in}
use Rattle.paris_book.proofs.Swept.{swept_entries}
use Rattle.paris_book.specs.Rows.{RowData}
use Rattle.paris_book.proofs.Unsettling.{delete_rows}
use Rattle.paris_book.proofs.Inserts.{state_of}
use Rattle.paris_book.proofs.Deletes.{delete_whole, delete_view}
use Rattle.paris_book.proofs.Targets.{Target, target_of, target_there, target_row, target_place, target_drop}
use Rattle.paris_book.proofs.Calls.{few_edits}
use Rattle.paris_book.proofs.TouchedEdits.{delete_enough}
use Rattle.paris_book.proofs.MostRead.{found_touched}
use Rattle.paris_book.proofs.loose.Loose.take_out.Goals as goal

pub end_edit-requires-clause-own : goal.end_edit-requires-clause-own
end_edit-requires-clause-own c =
    subst (λ (js : List RowId). AreOwn c.delete.new.self (is_among (ids_in js))) (c.as_slice.ensures.value ∙ sym c.as_slice-2.ensures.value) (c.delete.ensures.own (is_among (ids_in c.as_slice.result.now)) c.in_ok-own_all.ensures.ok)

pub unreachable-requires : goal.unreachable-requires
unreachable-requires c =
    target_there c.self.inside.rows.rows (find_row c.args.self.now c.args.id) c.args.id.0 c.in_ok-below.below
    (target_of c.self.inside.board c.self.inside.edits c.self.inside.rows.next_id (inputs_of c.self.inside.inputs) c.self.inside.rows.rows c.args.self.now c.args.id.0 c.in_ok-below.below c.self.view_is c.in_ok-below.ensures.ok) c.in-None.ensures.value

target : (c : goal.After-end_edit) → Target c.self.inside.rows.rows (find_row c.args.self.now c.args.id) c.args.id.0 c.in_ok-below.below
target c = target_of c.self.inside.board c.self.inside.edits c.self.inside.rows.next_id (inputs_of c.self.inside.inputs) c.self.inside.rows.rows c.args.self.now c.args.id.0 c.in_ok-below.below c.self.view_is c.in_ok-below.ensures.ok

rows_are : (c : goal.After-end_edit) → c.end_edit.new.rows.rows ≡ take (target c).place c.self.inside.rows.rows ++ swept_entries (c.self.inside.edits + 1) (has_key (writes (target c).row.plan)) (drop ((target c).place + 1) c.self.inside.rows.rows)
rows_are c =
    let t = target c in
    let same = target_row c.self.inside.rows.rows (find_row c.args.self.now c.args.id) c.args.id.0 c.in_ok-below.below c.in-Some.row.now t c.in-Some.ensures.value in
    delete_rows (c.self.inside.edits + 1) t.place (has_key (writes t.row.plan)) c.self.inside.rows.rows c.delete.new.self.rows c.end_edit.new.rows.rows (ids_in c.in_ok-ids-in-Some.ids.items)
    (c.in_ok-delete.ensures.ok ∙ ap (λ (l : List Entry). remove l (place_in l c.args.id.0)) c.own_all.ensures.rows ∙ ap (remove c.self.inside.rows.rows) (target_place c.self.inside.rows.rows (find_row c.args.self.now c.args.id) c.args.id.0 c.in_ok-below.below t))
    c.end_edit.ensures.sound.distinct
    (c.in_ok-ids-in-Some.ensures.ids
    ∙ ap (λ ks. touched data_plan (has_key ks) (drop c.in_ok-below.below c.self.inside.rows.rows)) (c.writes.ensures ∙ ap writes c.plan.ensures ∙ ap (λ (x : RowData). writes x.plan) same)
    ∙ ap (λ k. touched data_plan (has_key (writes t.row.plan)) (drop k c.self.inside.rows.rows)) t.just_below)
    (c.end_edit.ensures.rows ∙ ap (λ js. unsettled_by_ids (c.self.inside.edits + 1) (ids_in js) c.delete.new.self.rows) c.as_slice-2.ensures.value)

pub invariant_of-self-2 : goal.invariant_of-self-2
invariant_of-self-2 c =
    let t = target c in
    let few = few_edits c.self.inside.board c.self.inside.edits c.self.inside.rows.next_id (inputs_of c.self.inside.inputs) c.self.inside.rows.rows c.args.self.now c.self.view_is c.requires.left in
    let behind = target_drop c.self.inside.rows.rows (find_row c.args.self.now c.args.id) c.args.id.0 c.in_ok-below.below t in
    rw (c.end_edit.ensures.edits, c.end_edit.ensures.next_id, c.delete.ensures.next_id, c.own_all.ensures.next_id) (delete_whole c.self.inside.board c.self.inside.edits c.self.inside.rows.next_id (inputs_of c.self.inside.inputs) c.self.inside.rows.rows c.end_edit.new.rows.rows t.place (c.args.id.0, t.row) (drop (t.place + 1) c.self.inside.rows.rows) few behind c.self.invariant (rows_are c))

pub returns-clause-ok : goal.returns-clause-ok
returns-clause-ok c =
    let t = target c in
    let behind = target_drop c.self.inside.rows.rows (find_row c.args.self.now c.args.id) c.args.id.0 c.in_ok-below.below t in (
      ap delete_fault t.seen,
      ap₂ (λ number next. state_of c.self.inside.board number next (inputs_of c.self.inside.inputs) c.end_edit.new.rows.rows) c.end_edit.ensures.edits (c.end_edit.ensures.next_id ∙ c.delete.ensures.next_id ∙ c.own_all.ensures.next_id)
          ∙ delete_view c.self.inside.board c.self.inside.edits c.self.inside.rows.next_id (inputs_of c.self.inside.inputs) c.self.inside.rows.rows c.end_edit.new.rows.rows c.args.self.now t.place (c.args.id.0, t.row) (drop (t.place + 1) c.self.inside.rows.rows) behind c.self.invariant (rows_are c) c.self.view_is
          ∙ ap (deleted_from c.args.self.now) (sym t.seen),
    )

pub affected-requires-clause-few : goal.affected-requires-clause-few
affected-requires-clause-few c = let same = ap length c.writes.ensures in omega (arith, same, writes-few c.plan.result.now)

pub returns-clause-enough : goal.returns-clause-enough
returns-clause-enough c =
    let t = target c in
    let same = target_row c.self.inside.rows.rows (find_row c.args.self.now c.args.id) c.args.id.0 c.in_ok-below.below c.in-Some.row.now t c.in-Some.ensures.value in
    let behind = target_drop c.self.inside.rows.rows (find_row c.args.self.now c.args.id) c.args.id.0 c.in_ok-below.below t in
    let old : State = state_of c.self.inside.board c.self.inside.edits c.self.inside.rows.next_id (inputs_of c.self.inside.inputs) c.self.inside.rows.rows in
    let new : State = state_of c.self.inside.board c.end_edit.new.edits c.end_edit.new.rows.next_id (inputs_of c.self.inside.inputs) c.end_edit.new.rows.rows in
    delete_enough old new c.self.inside.rows.rows c.end_edit.new.rows.rows (subst IsAtRest (sym c.self.view_is) c.requires.rests) refl refl (invariant_of-self-2 c).ids_apart
    t.place refl (c.args.id.0, t.row) (drop (t.place + 1) c.self.inside.rows.rows) behind (c.self.inside.edits + 1) (ids_in c.in_ok-ids-in-Some.ids.items) (rows_are c)
    (c.in_ok-ids-in-Some.ensures.ids
    ∙ ap (λ ks. touched data_plan (has_key ks) (drop c.in_ok-below.below c.self.inside.rows.rows)) (c.writes.ensures ∙ ap writes c.plan.ensures ∙ ap (λ (x : RowData). writes x.plan) same)
    ∙ ap (λ k. touched data_plan (has_key (writes t.row.plan)) (drop k c.self.inside.rows.rows)) t.just_below)

pub returns-clause-touched : goal.returns-clause-touched
returns-clause-touched c =
    let t = target c in
    let es = c.self.inside.rows.rows in
    let same = target_row es (find_row c.args.self.now c.args.id) c.args.id.0 c.in_ok-below.below c.in-Some.row.now t c.in-Some.ensures.value in
    subst (λ (s : State). length c.in_ok-ids-in-Some.ids.items ≤ length (touched_ids s.edits (map machine_row c.end_edit.new.rows.rows))) c.self.view_is
    (found_touched c.self.inside.edits (has_key (writes t.row.plan)) (take t.place es) (drop (t.place + 1) es) c.end_edit.new.rows.rows c.in_ok-ids-in-Some.ids.items
    (c.in_ok-ids-in-Some.ensures.ids
    ∙ ap (λ ks. touched data_plan (has_key ks) (drop c.in_ok-below.below es)) (c.writes.ensures ∙ ap writes c.plan.ensures ∙ ap (λ (x : RowData). writes x.plan) same)
    ∙ ap (λ k. touched data_plan (has_key (writes t.row.plan)) (drop k es)) t.just_below)
    (rows_are c))
