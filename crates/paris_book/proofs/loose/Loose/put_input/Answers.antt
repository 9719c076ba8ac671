use Rattle.std.proofs.Common.{List, ℕ, nat_eq, ◌≡◌, ◌+◌, ◌≤◌, map, [], ◌∷◌, Option, Some, sym, ap, ◌∙◌, length, refl, subst}
use Rattle.std.proofs.Math.Path.{ap₂}
use Rattle.std.specs.List.{IsDistinct}
use Rattle.std.specs.Option.{IfSome, IsSome}
use Rattle.paris_names.specs.Keys.{has_key}
use Rattle.paris_events.specs.State.{Inputs, State, input_of, start_world, with_input}
use Rattle.paris_events.specs.CutOff.{IsAtRest}
use Rattle.paris_events.specs.Edits.{input_changed, input_set}
use Rattle.paris_events.specs.declared.inputs.Input.{Input}
use Rattle.paris_names.specs.declared.ids.RowId.{RowId}
use Rattle.paris_program.specs.Program.{AreOwn, ids_of}
use Rattle.paris_book.specs.Entries.{Entry, machine_row}
use Rattle.paris_book.specs.TouchedIds.{touched_ids}
use Rattle.paris_book.specs.Among.{CanGive, given_numbers, input_given, inputs_of}
use Rattle.paris_book.specs.Marks.{is_among, unsettled_by_ids, ids_in}
use Rattle.paris_book.proofs.Swept.{swept_entries}
use Rattle.paris_book.proofs.Inserts.{state_of}
use Rattle.paris_book.proofs.Unsettling.{input_rows}
use Rattle.paris_book.proofs.InputEdits.{Present, present, input_agree, input_whole_at, input_view}
use Rattle.paris_book.proofs.TouchedEdits.{input_enough}
use Rattle.paris_book.proofs.Values.{Agree}
use Rattle.paris_book.proofs.Calls.{few_edits, width_given}
use Rattle.paris_book.proofs.MostRead.{found_touched}
use Rattle.paris_book.proofs.loose.Loose.put_input.Goals as goal

rows_are : (c : goal.After-end_edit) → c.end_edit.new.rows.rows ≡ swept_entries (c.self.inside.edits + 1) (has_key (c.args.key ∷ [])) c.self.inside.rows.rows
rows_are c =
    input_rows (c.self.inside.edits + 1) c.args.key c.self.inside.rows.rows c.end_edit.new.rows.rows (ids_in c.in_ok-ids.ids.items) (subst (λ (l : List Entry). IsDistinct nat_eq (ids_of l)) c.own_all.ensures.rows c.end_edit.ensures.sound.distinct) c.in_ok-ids.ensures.ids
    (c.end_edit.ensures.rows ∙ ap (λ js. unsettled_by_ids (c.self.inside.edits + 1) (ids_in js) c.own_all.new.self.rows) c.as_slice-2.ensures.value ∙ ap (λ (l : List Entry). unsettled_by_ids (c.self.inside.edits + 1) (ids_in c.in_ok-ids.ids.items) l) c.own_all.ensures.rows)

was : (c : goal.After-end_edit) → Present (inputs_of c.self.inside.inputs) c.args.key
was c = present (inputs_of c.self.inside.inputs) c.args.key (subst (λ (s : State). IsSome (input_of s.inputs c.args.key)) (sym c.self.view_is) c.requires.there)

abbrev values : (c : goal.After-end_edit) → List ℕ
values c = given_numbers c.args.given.now

abbrev made : (c : goal.After-end_edit) → Input
made c = input_given (was c).input (c.self.inside.edits + 1) c.args.from (values c)

can : (c : goal.After-end_edit) → CanGive (was c).input c.args.from (values c)
can c =
    subst (λ (o : Option Input). IfSome o (λ input. CanGive input c.args.from (values c))) (was c).there
    (subst (λ (s : State). IfSome (input_of s.inputs c.args.key) (λ input. CanGive input c.args.from (values c))) (sym c.self.view_is) c.requires.given)

inputs_are : (c : goal.After-end_edit) → inputs_of c.give_key.new.inputs ≡ with_input (inputs_of c.self.inside.inputs) c.args.key (made c)
inputs_are c =
    subst (λ (o : Option Input). IfSome o (λ input. inputs_of c.give_key.new.inputs ≡ with_input (inputs_of c.self.inside.inputs) c.args.key (input_given input (c.self.inside.edits + 1) c.args.from (values c)))) (was c).there c.in_ok-give_key.ensures.ok

count : (c : goal.After-end_edit) → length (made c).value.numbers ≡ length (was c).input.value.numbers
count c = sym (width_given (was c).input c.args.from (values c) (can c).0)

pub end_edit-requires-clause-own : goal.end_edit-requires-clause-own
end_edit-requires-clause-own c =
    subst (λ (js : List RowId). AreOwn c.own_all.new.self (is_among (ids_in js))) (c.as_slice.ensures.value ∙ sym c.as_slice-2.ensures.value) (c.in_ok-own_all.ensures.ok)

pub invariant_of-self-2 : goal.invariant_of-self-2
invariant_of-self-2 c =
    let w = was c in
    let few = few_edits c.self.inside.board c.self.inside.edits c.self.inside.rows.next_id (inputs_of c.self.inside.inputs) c.self.inside.rows.rows c.args.self.now c.self.view_is c.requires.left in
    input_whole_at c.self.inside.board c.self.inside.edits c.self.inside.rows.next_id (inputs_of c.self.inside.inputs) c.self.inside.rows.rows c.end_edit.new.rows.rows c.args.key (made c) w.input few w.there refl refl (count c) c.self.invariant (rows_are c)
    c.end_edit.new.edits c.end_edit.new.rows.next_id (inputs_of c.give_key.new.inputs) c.end_edit.ensures.edits (c.end_edit.ensures.next_id ∙ c.own_all.ensures.next_id) (inputs_are c)

pub returns-clause-ok : goal.returns-clause-ok
returns-clause-ok c =
    let w = was c in
    let k = c.args.key in
    let old : State = state_of c.self.inside.board c.self.inside.edits c.self.inside.rows.next_id (inputs_of c.self.inside.inputs) c.self.inside.rows.rows in
    ap (λ number. state_of c.self.inside.board number c.end_edit.new.rows.next_id (inputs_of c.give_key.new.inputs) c.end_edit.new.rows.rows) c.end_edit.ensures.edits
    ∙ ap₂ (λ (x : Inputs) next. state_of c.self.inside.board (c.self.inside.edits + 1) next x c.end_edit.new.rows.rows) (inputs_are c) (c.end_edit.ensures.next_id ∙ c.own_all.ensures.next_id)
    ∙ input_view c.self.inside.board c.self.inside.edits c.self.inside.rows.next_id (inputs_of c.self.inside.inputs) c.self.inside.rows.rows c.end_edit.new.rows.rows k (made c) w.input w.there refl c.self.invariant (rows_are c)
    ∙ ap (input_changed old k c.args.from (values c)) (sym w.there)
    ∙ ap (λ (s : State). input_set s (Some k) c.args.from (values c)) c.self.view_is

pub returns-clause-enough : goal.returns-clause-enough
returns-clause-enough c =
    let old : State = state_of c.self.inside.board c.self.inside.edits c.self.inside.rows.next_id (inputs_of c.self.inside.inputs) c.self.inside.rows.rows in
    let new : State = state_of c.self.inside.board c.end_edit.new.edits c.end_edit.new.rows.next_id (inputs_of c.give_key.new.inputs) c.end_edit.new.rows.rows in
    input_enough old new c.self.inside.rows.rows c.end_edit.new.rows.rows (subst IsAtRest (sym c.self.view_is) c.requires.rests) refl refl (invariant_of-self-2 c).ids_apart
    (c.self.inside.edits + 1) (has_key (c.args.key ∷ [])) (ids_in c.in_ok-ids.ids.items) (rows_are c)
    (subst (λ (i : Inputs). Agree (has_key (c.args.key ∷ [])) (start_world (inputs_of c.self.inside.inputs)) (start_world i)) (sym (inputs_are c)) (input_agree (inputs_of c.self.inside.inputs) c.args.key (made c)))
    c.in_ok-ids.ensures.ids

pub returns-clause-touched : goal.returns-clause-touched
returns-clause-touched c =
    subst (λ (s : State). length c.in_ok-ids.ids.items ≤ length (touched_ids s.edits (map machine_row c.end_edit.new.rows.rows))) c.self.view_is
    (found_touched c.self.inside.edits (has_key (c.args.key ∷ [])) [] c.self.inside.rows.rows c.end_edit.new.rows.rows c.in_ok-ids.ids.items c.in_ok-ids.ensures.ids (rows_are c))
