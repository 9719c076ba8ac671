use Rattle.std.specs.Prelude.{IsSome}
use Rattle.std.proofs.Common.{append_assoc, List, [], refl, length, map, ◌≡◌, ◌+◌, ◌≤◌, ◌++◌, ◌∷◌, Ok, sym, ap, ap₂, ◌∙◌, subst, take, drop}
use Rattle.paris_depends.specs.Sweeps.{touched}
use Rattle.paris_instr.specs.Resolve.{IsFittedTo}
use Rattle.paris_names.specs.declared.ids.RowId.{RowId}
use Rattle.paris_program.specs.Program.{AreOwn, place_in, place_of, with_row}
use Rattle.paris_book.specs.Entries.{Entry, machine_row}
use Rattle.paris_book.specs.TouchedIds.{touched_ids}
use Rattle.paris_events.specs.State.{State, find_row}
use Rattle.paris_events.specs.CutOff.{IsAtRest}
use Rattle.paris_events.specs.Edits.{replaced_from}
use Rattle.paris_book.specs.Among.{inputs_of}
use Rattle.paris_book.specs.Marks.{is_among, data_plan, replaced_data, writes_either, unsettled_by_ids, ids_in}
use Rattle.paris_book.proofs.Swept.{swept_entries}
use Rattle.paris_book.proofs.Unsettling.{replace_rows}
use Rattle.paris_book.proofs.Inserts.{state_of}
use Rattle.paris_book.proofs.Replaces.{replace_whole, replace_view}
use Rattle.paris_book.proofs.Targets.{Target, target_of, target_row, target_there, target_some, target_within, target_place, target_drop}
use Rattle.paris_book.proofs.Calls.{few_edits, fitted_plan}
use Rattle.paris_book.proofs.TouchedEdits.{replace_enough}
use Rattle.paris_book.proofs.MostRead.{found_touched}
use Rattle.paris_book.proofs.loose.Loose.replace_plan.Goals as goal

pub end_edit-requires-clause-own : goal.end_edit-requires-clause-own
end_edit-requires-clause-own c =
    subst (λ (js : List RowId). AreOwn c.replace.new.self (is_among (ids_in js))) (c.as_slice.ensures.value ∙ sym c.as_slice-2.ensures.value) (c.replace.ensures.own (is_among (ids_in c.as_slice.result.now)) c.in_ok-own_all.ensures.ok)

pub unsettled_by_replace-requires-clause-within : goal.unsettled_by_replace-requires-clause-within
unsettled_by_replace-requires-clause-within c =
    target_within c.self.inside.rows.rows (find_row c.args.self.now c.args.id) c.args.id.0 c.args.below
    (target_of c.self.inside.board c.self.inside.edits c.self.inside.rows.next_id (inputs_of c.self.inside.inputs) c.self.inside.rows.rows c.args.self.now c.args.id.0 c.args.below c.self.view_is c.requires.there)

pub unsettled_by_replace-requires-clause-there : goal.unsettled_by_replace-requires-clause-there
unsettled_by_replace-requires-clause-there c =
    target_some c.self.inside.rows.rows (find_row c.args.self.now c.args.id) c.args.id.0 c.args.below
    (target_of c.self.inside.board c.self.inside.edits c.self.inside.rows.next_id (inputs_of c.self.inside.inputs) c.self.inside.rows.rows c.args.self.now c.args.id.0 c.args.below c.self.view_is c.requires.there)

pub replace-requires : goal.replace-requires
replace-requires c =
    subst (λ (l : List Entry). IsSome (place_of l c.args.id.0)) (sym c.own_all.ensures.rows)
    (target_some c.self.inside.rows.rows (find_row c.args.self.now c.args.id) c.args.id.0 c.args.below
    (target_of c.self.inside.board c.self.inside.edits c.self.inside.rows.next_id (inputs_of c.self.inside.inputs) c.self.inside.rows.rows c.args.self.now c.args.id.0 c.args.below c.self.view_is c.requires.there))

target : (c : goal.After-end_edit) → Target c.self.inside.rows.rows (find_row c.args.self.now c.args.id) c.args.id.0 c.args.below
target c = target_of c.self.inside.board c.self.inside.edits c.self.inside.rows.next_id (inputs_of c.self.inside.inputs) c.self.inside.rows.rows c.args.self.now c.args.id.0 c.args.below c.self.view_is c.requires.there

rows_are : (c : goal.After-end_edit) → c.end_edit.new.rows.rows
    ≡ take (target c).place c.self.inside.rows.rows ++ (c.args.id.0, replaced_data c.args.plan (c.self.inside.edits + 1) (target c).row) ∷ swept_entries (c.self.inside.edits + 1) (writes_either (target c).row.plan c.args.plan) (drop ((target c).place + 1) c.self.inside.rows.rows)
rows_are c =
    let t = target c in
    replace_rows c.self.inside.edits t.place c.args.id.0 (writes_either t.row.plan c.args.plan) c.args.plan t.row c.self.inside.rows.rows c.replace.new.self.rows c.end_edit.new.rows.rows (ids_in c.in_ok-ids.ids.items)
    t.at
    (c.in_ok-replace.ensures.ok
    ∙ ap (λ (l : List Entry). with_row l (place_in l c.args.id.0) c.in_ok-row-in-Some.row) c.own_all.ensures.rows
    ∙ ap (λ k. with_row c.self.inside.rows.rows k c.in_ok-row-in-Some.row) (target_place c.self.inside.rows.rows (find_row c.args.self.now c.args.id) c.args.id.0 c.args.below t)
    ∙ ap (with_row c.self.inside.rows.rows t.place) (c.in_ok-row-in-Some.ensures ∙ ap (replaced_data c.args.plan (c.self.inside.edits + 1)) (target_row c.self.inside.rows.rows (find_row c.args.self.now c.args.id) c.args.id.0 c.args.below c.in-Some.row.now t c.in-Some.ensures.value)))
    c.end_edit.ensures.sound.distinct
    (c.in_ok-ids.ensures.ids t.row t.by_id ∙ ap (λ k. touched data_plan (writes_either t.row.plan c.args.plan) (drop k c.self.inside.rows.rows)) t.just_below)
    (c.end_edit.ensures.rows ∙ ap (λ js. unsettled_by_ids (c.self.inside.edits + 1) (ids_in js) c.replace.new.self.rows) c.as_slice-2.ensures.value)

next_is : (c : goal.After-end_edit) → c.end_edit.new.rows.next_id ≡ c.self.inside.rows.next_id
next_is c = c.end_edit.ensures.next_id ∙ c.replace.ensures.next_id ∙ c.own_all.ensures.next_id

pub unreachable-requires : goal.unreachable-requires
unreachable-requires c =
    target_there c.self.inside.rows.rows (find_row c.args.self.now c.args.id) c.args.id.0 c.args.below
    (target_of c.self.inside.board c.self.inside.edits c.self.inside.rows.next_id (inputs_of c.self.inside.inputs) c.self.inside.rows.rows c.args.self.now c.args.id.0 c.args.below c.self.view_is c.requires.there) c.in-None.ensures.value

pub invariant_of-self-2 : goal.invariant_of-self-2
invariant_of-self-2 c =
    let t = target c in
    let few = few_edits c.self.inside.board c.self.inside.edits c.self.inside.rows.next_id (inputs_of c.self.inside.inputs) c.self.inside.rows.rows c.args.self.now c.self.view_is c.requires.left in
    let fits = fitted_plan c.self.inside.board (inputs_of c.self.inside.inputs) c.args.plan c.self.invariant.shaped (subst (λ (s : State). IsFittedTo s.board c.args.plan) (sym c.self.view_is) c.requires.fitted) in
    let behind = target_drop c.self.inside.rows.rows (find_row c.args.self.now c.args.id) c.args.id.0 c.args.below t in
    rw (c.end_edit.ensures.edits, next_is c) (replace_whole c.self.inside.board c.self.inside.edits c.self.inside.rows.next_id (inputs_of c.self.inside.inputs) c.self.inside.rows.rows c.end_edit.new.rows.rows t.place (c.args.id.0, t.row) (drop (t.place + 1) c.self.inside.rows.rows) c.args.plan few fits behind c.self.invariant (rows_are c))

pub returns-clause-ok : goal.returns-clause-ok
returns-clause-ok c =
    let t = target c in
    let behind = target_drop c.self.inside.rows.rows (find_row c.args.self.now c.args.id) c.args.id.0 c.args.below t in
    ap₂ (λ number next. state_of c.self.inside.board number next (inputs_of c.self.inside.inputs) c.end_edit.new.rows.rows) c.end_edit.ensures.edits (next_is c)
    ∙ replace_view c.self.inside.board c.self.inside.edits c.self.inside.rows.next_id (inputs_of c.self.inside.inputs) c.self.inside.rows.rows c.end_edit.new.rows.rows c.args.self.now t.place (c.args.id.0, t.row) (drop (t.place + 1) c.self.inside.rows.rows) c.args.plan behind c.self.invariant (rows_are c) c.self.view_is
    ∙ ap (λ o. replaced_from c.args.self.now o (Ok c.args.plan)) (sym t.seen)

pub returns-clause-enough : goal.returns-clause-enough
returns-clause-enough c =
    let t = target c in
    let behind = target_drop c.self.inside.rows.rows (find_row c.args.self.now c.args.id) c.args.id.0 c.args.below t in
    let old : State = state_of c.self.inside.board c.self.inside.edits c.self.inside.rows.next_id (inputs_of c.self.inside.inputs) c.self.inside.rows.rows in
    let new : State = state_of c.self.inside.board c.end_edit.new.edits c.end_edit.new.rows.next_id (inputs_of c.self.inside.inputs) c.end_edit.new.rows.rows in
    replace_enough old new c.self.inside.rows.rows c.end_edit.new.rows.rows (subst IsAtRest (sym c.self.view_is) c.requires.rests) refl refl (invariant_of-self-2 c).ids_apart
    t.place refl (c.args.id.0, t.row) (drop (t.place + 1) c.self.inside.rows.rows) behind (c.self.inside.edits + 1) c.args.plan (ids_in c.in_ok-ids.ids.items) (rows_are c)
    (c.in_ok-ids.ensures.ids t.row t.by_id ∙ ap (λ k. touched data_plan (writes_either t.row.plan c.args.plan) (drop k c.self.inside.rows.rows)) t.just_below)

pub returns-clause-touched : goal.returns-clause-touched
returns-clause-touched c =
    let t = target c in
    let es = c.self.inside.rows.rows in
    let new : Entry = (c.args.id.0, replaced_data c.args.plan (c.self.inside.edits + 1) t.row) in
    subst (λ (s : State). length c.in_ok-ids.ids.items ≤ length (touched_ids s.edits (map machine_row c.end_edit.new.rows.rows))) c.self.view_is
    (found_touched c.self.inside.edits (writes_either t.row.plan c.args.plan) (take t.place es ++ new ∷ []) (drop (t.place + 1) es) c.end_edit.new.rows.rows c.in_ok-ids.ids.items
    (c.in_ok-ids.ensures.ids t.row t.by_id ∙ ap (λ k. touched data_plan (writes_either t.row.plan c.args.plan) (drop k es)) t.just_below)
    (rows_are c ∙ sym (append_assoc (take t.place es) (new ∷ []) (swept_entries (c.self.inside.edits + 1) (writes_either t.row.plan c.args.plan) (drop (t.place + 1) es)))))
