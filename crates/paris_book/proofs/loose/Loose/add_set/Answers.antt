use Rattle.std.proofs.Common.{◌≡◌, ◌+◌, List, [], ◌∷◌, ◌++◌, cond, Some, None, sym, ap, ◌∙◌, subst}
use Rattle.std.proofs.Math.Path.{ap₂}
use Rattle.std.specs.Option.{option_or}
use Rattle.paris_geometry.specs.Geometry.{processor_count}
use Rattle.paris_board.specs.Board.{Board, with_set}
use Rattle.paris_events.specs.State.{State, declared_flags}
use Rattle.paris_events.specs.CutOff.{IsAtRest}
use Rattle.paris_events.specs.Edits.{set_added}
use Rattle.paris_events.specs.declared.inputs.FlagInputs.{FlagInputs}
use Rattle.paris_book.specs.Among.{inputs_of}
use Rattle.paris_names.specs.declared.faults.Fault.TheVariants.{BadAxes}
use Rattle.paris_board.specs.Board.{set_fault}
use Rattle.paris_geometry.specs.Geometry.{is_geometry}
use Rattle.paris_book.proofs.Inserts.{state_of}
use Rattle.paris_book.proofs.Declares.{set_whole, set_view, set_enough}
use Rattle.paris_book.proofs.Calls.{few_edits}
use Rattle.paris_events.specs.declared.inputs.FlagInputs.{FlagInputs}
use Rattle.paris_book.proofs.loose.Loose.add_set.Goals as goal

pub invariant_of-self-2 : goal.invariant_of-self-2
invariant_of-self-2 c =
    let board : c.add_set.new.self ≡ with_set c.self.inside.board c.args.name c.args.axes.now = c.in_ok-add_set.ensures.ok.2 ∙ ap (with_set c.self.inside.board c.args.name) c.in_ok-geometry.ensures.ok.1 in
    let flags : c.push_flags.new.all.items ≡ c.self.inside.inputs.flags.items ++ declared_flags (c.self.inside.edits + 1) (processor_count c.args.axes.now) ∷ [] =
    c.push_flags.ensures ∙ ap₂ (λ xs x. xs ++ x ∷ []) c.in_ok-reserve.ensures.items (c.in_ok-flags.ensures ∙ ap (declared_flags (c.self.inside.edits + 1)) (c.vps.ensures.value ∙ ap processor_count c.in_ok-geometry.ensures.ok.1)) in
    rw (board, flags) (set_whole c.self.inside.board c.self.inside.edits c.self.inside.rows.next_id (inputs_of c.self.inside.inputs) c.self.inside.rows.rows c.args.name c.args.axes.now (few_edits c.self.inside.board c.self.inside.edits c.self.inside.rows.next_id (inputs_of c.self.inside.inputs) c.self.inside.rows.rows c.args.self.now c.self.view_is c.requires.left) c.set_fault.ensures.sound c.self.invariant)

pub returns-clause-ok : goal.returns-clause-ok
returns-clause-ok c =
    let board : c.add_set.new.self ≡ with_set c.self.inside.board c.args.name c.args.axes.now = c.in_ok-add_set.ensures.ok.2 ∙ ap (with_set c.self.inside.board c.args.name) c.in_ok-geometry.ensures.ok.1 in
    let flags : c.push_flags.new.all.items ≡ c.self.inside.inputs.flags.items ++ declared_flags (c.self.inside.edits + 1) (processor_count c.args.axes.now) ∷ [] =
    c.push_flags.ensures ∙ ap₂ (λ xs x. xs ++ x ∷ []) c.in_ok-reserve.ensures.items (c.in_ok-flags.ensures ∙ ap (declared_flags (c.self.inside.edits + 1)) (c.vps.ensures.value ∙ ap processor_count c.in_ok-geometry.ensures.ok.1)) in (
      ap (λ (s : State). option_or (set_fault s.board c.args.name) (cond (is_geometry c.args.axes.now) None (Some BadAxes))) (sym c.self.view_is)
          ∙ ap₂ (λ o t. option_or o (cond t None (Some BadAxes))) (sym c.in_default.ensures.value) c.in_ok-geometry.ensures.ok.0,
      ap₂ (λ (b : Board) (fs : List FlagInputs). state_of b (c.self.inside.edits + 1) c.self.inside.rows.next_id (record { fields = c.self.inside.inputs.fields.items; flags = fs }) c.self.inside.rows.rows) board flags
          ∙ set_view c.self.inside.board c.self.inside.edits c.self.inside.rows.next_id (inputs_of c.self.inside.inputs) c.self.inside.rows.rows c.args.name c.args.axes.now c.self.invariant
          ∙ ap (λ (s : State). set_added s c.args.name c.args.axes.now) c.self.view_is,
    )

pub returns-clause-enough : goal.returns-clause-enough
returns-clause-enough c =
    let board : c.add_set.new.self ≡ with_set c.self.inside.board c.args.name c.args.axes.now = c.in_ok-add_set.ensures.ok.2 ∙ ap (with_set c.self.inside.board c.args.name) c.in_ok-geometry.ensures.ok.1 in
    let flags : c.push_flags.new.all.items ≡ c.self.inside.inputs.flags.items ++ declared_flags (c.self.inside.edits + 1) (processor_count c.args.axes.now) ∷ [] =
    c.push_flags.ensures ∙ ap₂ (λ xs x. xs ++ x ∷ []) c.in_ok-reserve.ensures.items (c.in_ok-flags.ensures ∙ ap (declared_flags (c.self.inside.edits + 1)) (c.vps.ensures.value ∙ ap processor_count c.in_ok-geometry.ensures.ok.1)) in
    rw (board, flags) (set_enough c.self.inside.board c.self.inside.edits c.self.inside.rows.next_id (inputs_of c.self.inside.inputs) c.self.inside.rows.rows c.args.name c.args.axes.now c.self.invariant (subst IsAtRest (sym c.self.view_is) c.requires.rests))
