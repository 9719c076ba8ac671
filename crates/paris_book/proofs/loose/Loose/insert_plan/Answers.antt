use Rattle.std.proofs.Common.{append_assoc, List, [], ◌∷◌, ◌++◌, take, map, refl, arith, length, ◌≡◌, ◌+◌, ◌≤◌, sym, ap, ap₂, ◌∙◌, subst, drop, insert}
use Rattle.paris_names.specs.Keys.{has_key}
use Rattle.paris_depends.proofs.FewKeys.{writes-few}
use Rattle.paris_depends.specs.Sweeps.{touched}
use Rattle.paris_model.specs.Instructions.{writes}
use Rattle.paris_instr.specs.Resolve.{IsFittedTo}
use Rattle.paris_events.specs.State.{State}
use Rattle.paris_events.specs.CutOff.{IsAtRest}
use Rattle.paris_names.specs.declared.ids.RowId.{RowId}
use Rattle.paris_program.specs.Program.{AreOwn}
use Rattle.paris_book.specs.Entries.{Entry, machine_row}
use Rattle.paris_book.specs.TouchedIds.{touched_ids}
use Rattle.paris_book.specs.Among.{inputs_of}
use Rattle.paris_book.specs.Marks.{fresh_data, is_among, data_plan, unsettled_by_ids, ids_in}
use Rattle.paris_book.proofs.Unsettling.{insert_rows}
use Rattle.paris_book.proofs.Inserts.{inserted_rows, insert_whole, insert_view, state_of}
use Rattle.paris_book.proofs.Calls.{few_edits, fitted_plan}
use Rattle.paris_book.proofs.TouchedEdits.{insert_enough}
use Rattle.paris_book.proofs.MostRead.{found_touched}
use Rattle.paris_book.proofs.Swept.{swept_entries}
use Rattle.paris_book.proofs.loose.Loose.insert_plan.Goals as goal

rows_are : (c : goal.After-end_edit) → c.end_edit.new.rows.rows ≡ inserted_rows c.self.inside.edits c.self.inside.rows.next_id c.self.inside.rows.rows c.args.place c.args.plan
rows_are c =
    insert_rows c.self.inside.edits c.self.inside.rows.next_id c.args.place c.args.plan c.self.inside.rows.rows c.insert_at.new.self.rows c.end_edit.new.rows.rows (ids_in c.in_ok-ids.ids.items)
    (c.in_ok-id.ensures.ok.1 ∙ ap₂ (λ (l : List Entry) n. insert l c.args.place (n, c.in_ok-row.row)) c.own_all.ensures.rows c.own_all.ensures.next_id ∙ ap (λ d. insert c.self.inside.rows.rows c.args.place (c.self.inside.rows.next_id, d)) c.in_ok-row.ensures)
    c.end_edit.ensures.sound.distinct
    (c.in_ok-ids.ensures.ids ∙ ap (λ ks. touched data_plan (has_key ks) (drop c.args.place c.self.inside.rows.rows)) c.writes.ensures)
    (c.end_edit.ensures.rows ∙ ap (λ js. unsettled_by_ids (c.self.inside.edits + 1) (ids_in js) c.insert_at.new.self.rows) c.as_slice-2.ensures.value)

pub end_edit-requires-clause-own : goal.end_edit-requires-clause-own
end_edit-requires-clause-own c =
    subst (λ (js : List RowId). AreOwn c.insert_at.new.self (is_among (ids_in js))) (c.as_slice.ensures.value ∙ sym c.as_slice-2.ensures.value) (c.insert_at.ensures.own (is_among (ids_in c.as_slice.result.now)) c.in_ok-own_all.ensures.ok)

pub invariant_of-self-2 : goal.invariant_of-self-2
invariant_of-self-2 c =
    let fits = fitted_plan c.self.inside.board (inputs_of c.self.inside.inputs) c.args.plan c.self.invariant.shaped (subst (λ (s : State). IsFittedTo s.board c.args.plan) (sym c.self.view_is) c.requires.fitted) in
    let few = few_edits c.self.inside.board c.self.inside.edits c.self.inside.rows.next_id (inputs_of c.self.inside.inputs) c.self.inside.rows.rows c.args.self.now c.self.view_is c.requires.left in
    rw (c.end_edit.ensures.edits, c.end_edit.ensures.next_id, c.in_ok-id.ensures.ok.2, c.own_all.ensures.next_id) (insert_whole c.self.inside.board c.self.inside.edits c.self.inside.rows.next_id (inputs_of c.self.inside.inputs) c.self.inside.rows.rows c.end_edit.new.rows.rows c.args.place c.args.plan few fits c.self.invariant (rows_are c))

pub returns-clause-ok : goal.returns-clause-ok
returns-clause-ok c = (
  c.in_ok-id.ensures.ok.0 ∙ ap (λ n. record { 0 = n }) c.own_all.ensures.next_id ∙ ap (λ (s : State). record { 0 = s.next }) c.self.view_is,
  ap₂ (λ number next. state_of c.self.inside.board number next (inputs_of c.self.inside.inputs) c.end_edit.new.rows.rows) c.end_edit.ensures.edits (c.end_edit.ensures.next_id ∙ c.in_ok-id.ensures.ok.2 ∙ ap (λ n. n + 1) c.own_all.ensures.next_id)
      ∙ insert_view c.self.inside.board c.self.inside.edits c.self.inside.rows.next_id (inputs_of c.self.inside.inputs) c.self.inside.rows.rows c.end_edit.new.rows.rows c.args.self.now c.args.place c.args.plan c.self.invariant (rows_are c) c.self.view_is,
)

pub affected-requires-clause-few : goal.affected-requires-clause-few
affected-requires-clause-few c = let same = ap length c.writes.ensures in omega (arith, same, writes-few c.args.plan)

pub returns-clause-enough : goal.returns-clause-enough
returns-clause-enough c =
    let old : State = state_of c.self.inside.board c.self.inside.edits c.self.inside.rows.next_id (inputs_of c.self.inside.inputs) c.self.inside.rows.rows in
    let new : State = state_of c.self.inside.board c.end_edit.new.edits c.end_edit.new.rows.next_id (inputs_of c.self.inside.inputs) c.end_edit.new.rows.rows in
    insert_enough old new c.self.inside.rows.rows c.end_edit.new.rows.rows (subst IsAtRest (sym c.self.view_is) c.requires.rests) refl refl (invariant_of-self-2 c).ids_apart
    c.args.place refl c.self.inside.edits c.self.inside.rows.next_id c.args.plan (ids_in c.in_ok-ids.ids.items) (rows_are c)
    (c.in_ok-ids.ensures.ids ∙ ap (λ ks. touched data_plan (has_key ks) (drop c.args.place c.self.inside.rows.rows)) c.writes.ensures)

pub returns-clause-touched : goal.returns-clause-touched
returns-clause-touched c =
    let es = c.self.inside.rows.rows in
    let new : Entry = (c.self.inside.rows.next_id, fresh_data c.args.plan (c.self.inside.edits + 1)) in
    subst (λ (s : State). length c.in_ok-ids.ids.items ≤ length (touched_ids s.edits (map machine_row c.end_edit.new.rows.rows))) c.self.view_is
    (found_touched c.self.inside.edits (has_key (writes c.args.plan)) (take c.args.place es ++ new ∷ []) (drop c.args.place es) c.end_edit.new.rows.rows c.in_ok-ids.ids.items
    (c.in_ok-ids.ensures.ids ∙ ap (λ ks. touched data_plan (has_key ks) (drop c.args.place es)) c.writes.ensures)
    (rows_are c ∙ sym (append_assoc (take c.args.place es) (new ∷ []) (swept_entries (c.self.inside.edits + 1) (has_key (writes c.args.plan)) (drop c.args.place es)))))
