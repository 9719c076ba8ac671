use Rattle.std.proofs.Common.{◌≡◌, ◌+◌, List, [], ◌∷◌, ◌++◌, sym, ap, ◌∙◌, subst}
use Rattle.std.proofs.Math.Path.{ap₂}
use Rattle.std.specs.Option.{unwrap_or}
use Rattle.paris_geometry.specs.Geometry.{processor_count}
use Rattle.paris_board.specs.Board.{Board, axes_of, with_field}
use Rattle.paris_events.specs.State.{State, declared_input}
use Rattle.paris_events.specs.CutOff.{IsAtRest}
use Rattle.paris_events.specs.Edits.{field_added}
use Rattle.paris_events.specs.declared.inputs.Input.{Input}
use Rattle.paris_book.specs.Among.{inputs_of}
use Rattle.paris_names.specs.declared.faults.Fault.TheVariants.{NoSet}
use Rattle.paris_board.specs.Board.{set_named, field_fault}
use Rattle.paris_book.proofs.Inserts.{state_of}
use Rattle.paris_book.proofs.Declares.{field_whole, field_view, field_enough}
use Rattle.paris_book.proofs.Calls.{few_edits, found_named}
use Rattle.paris_book.proofs.loose.Loose.add_field.Goals as goal

pub invariant_of-self-2 : goal.invariant_of-self-2
invariant_of-self-2 c =
    let made = c.in_ok-add_field.ensures.ok.2 in
    let here = found_named (set_named c.self.inside.board c.args.set) c.in_ok-set_of.field-0 NoSet c.in_ok-set_of.ensures.value in
    let same : made.0 ≡ c.in_ok-set_of.field-0 = ap (λ o. unwrap_or o made.0) (sym made.1 ∙ here) in
    let board : c.add_field.new.self ≡ with_field c.self.inside.board c.args.name c.in_ok-set_of.field-0 c.args.width = made.2 ∙ ap (λ s. with_field c.self.inside.board c.args.name s c.args.width) same in
    let fields : c.push_field.new.fields.items ≡ c.self.inside.inputs.fields.items ++ declared_input (c.self.inside.edits + 1) c.args.width (processor_count (axes_of c.self.inside.board c.in_ok-set_of.field-0)) 0 ∷ [] =
    c.push_field.ensures ∙ ap₂ (λ xs x. xs ++ x ∷ []) c.in_ok-reserve.ensures.items (c.in_ok-input.ensures ∙ ap (λ n. declared_input (c.self.inside.edits + 1) c.args.width n 0) (c.vps-count.ensures.value ∙ ap processor_count c.geometry.ensures)) in
    rw (board, fields) (field_whole c.self.inside.board c.self.inside.edits c.self.inside.rows.next_id (inputs_of c.self.inside.inputs) c.self.inside.rows.rows c.args.name c.in_ok-set_of.field-0 c.args.width (few_edits c.self.inside.board c.self.inside.edits c.self.inside.rows.next_id (inputs_of c.self.inside.inputs) c.self.inside.rows.rows c.args.self.now c.self.view_is c.requires.left) c.self.invariant)

pub returns-clause-ok : goal.returns-clause-ok
returns-clause-ok c =
    let made = c.in_ok-add_field.ensures.ok.2 in
    let here = found_named (set_named c.self.inside.board c.args.set) c.in_ok-set_of.field-0 NoSet c.in_ok-set_of.ensures.value in
    let same : made.0 ≡ c.in_ok-set_of.field-0 = ap (λ o. unwrap_or o made.0) (sym made.1 ∙ here) in
    let board : c.add_field.new.self ≡ with_field c.self.inside.board c.args.name c.in_ok-set_of.field-0 c.args.width = made.2 ∙ ap (λ s. with_field c.self.inside.board c.args.name s c.args.width) same in
    let fields : c.push_field.new.fields.items ≡ c.self.inside.inputs.fields.items ++ declared_input (c.self.inside.edits + 1) c.args.width (processor_count (axes_of c.self.inside.board c.in_ok-set_of.field-0)) 0 ∷ [] =
    c.push_field.ensures ∙ ap₂ (λ xs x. xs ++ x ∷ []) c.in_ok-reserve.ensures.items (c.in_ok-input.ensures ∙ ap (λ n. declared_input (c.self.inside.edits + 1) c.args.width n 0) (c.vps-count.ensures.value ∙ ap processor_count c.geometry.ensures)) in (
      ap (λ (s : State). field_fault s.board c.args.name c.args.set c.args.width) (sym c.self.view_is) ∙ c.in_ok-add_field.ensures.ok.0,
      ap₂ (λ (b : Board) (fs : List Input). state_of b (c.self.inside.edits + 1) c.self.inside.rows.next_id (record { fields = fs; flags = c.self.inside.inputs.flags.items }) c.self.inside.rows.rows) board fields
          ∙ field_view c.self.inside.board c.self.inside.edits c.self.inside.rows.next_id (inputs_of c.self.inside.inputs) c.self.inside.rows.rows c.args.name c.in_ok-set_of.field-0 c.args.width c.self.invariant
          ∙ ap (λ o. field_added (state_of c.self.inside.board c.self.inside.edits c.self.inside.rows.next_id (inputs_of c.self.inside.inputs) c.self.inside.rows.rows) c.args.name o c.args.width) (sym here)
          ∙ ap (λ (s : State). field_added s c.args.name (set_named s.board c.args.set) c.args.width) c.self.view_is,
    )

pub returns-clause-enough : goal.returns-clause-enough
returns-clause-enough c =
    let made = c.in_ok-add_field.ensures.ok.2 in
    let here = found_named (set_named c.self.inside.board c.args.set) c.in_ok-set_of.field-0 NoSet c.in_ok-set_of.ensures.value in
    let same : made.0 ≡ c.in_ok-set_of.field-0 = ap (λ o. unwrap_or o made.0) (sym made.1 ∙ here) in
    let board : c.add_field.new.self ≡ with_field c.self.inside.board c.args.name c.in_ok-set_of.field-0 c.args.width = made.2 ∙ ap (λ s. with_field c.self.inside.board c.args.name s c.args.width) same in
    let fields : c.push_field.new.fields.items ≡ c.self.inside.inputs.fields.items ++ declared_input (c.self.inside.edits + 1) c.args.width (processor_count (axes_of c.self.inside.board c.in_ok-set_of.field-0)) 0 ∷ [] =
    c.push_field.ensures ∙ ap₂ (λ xs x. xs ++ x ∷ []) c.in_ok-reserve.ensures.items (c.in_ok-input.ensures ∙ ap (λ n. declared_input (c.self.inside.edits + 1) c.args.width n 0) (c.vps-count.ensures.value ∙ ap processor_count c.geometry.ensures)) in
    rw (board, fields) (field_enough c.self.inside.board c.self.inside.edits c.self.inside.rows.next_id (inputs_of c.self.inside.inputs) c.self.inside.rows.rows c.args.name c.in_ok-set_of.field-0 c.args.width c.self.invariant (subst IsAtRest (sym c.self.view_is) c.requires.rests))
