use Rattle.std.proofs.Common.{◌≡◌, List, Some, ap, ◌∙◌, sym, subst}
use Rattle.paris_model.specs.Instructions.{Plan}
use Rattle.paris_field.specs.Fields.{FieldNumbers}
use Rattle.paris_exec.specs.Tasks.{Task}
use Rattle.paris_book.specs.Among.{inputs_of}
use Rattle.paris_book.specs.Entries.{Entry}
use Rattle.paris_book.specs.Sources.{KnownArePresent}
use Rattle.paris_book.specs.Whole.{Fitted}
use Rattle.paris_book.specs.declared.sources.Source.{Source}
use Rattle.paris_book.proofs.Naming.{of_plan_some, known_present}
use Rattle.paris_book.proofs.Shows.{fitted_at}
use Rattle.paris_book.proofs.looks.sources_if_cut.Goals as goal

pub sources_if_same-requires-clause-plan_fitted : goal.sources_if_same-requires-clause-plan_fitted
sources_if_same-requires-clause-plan_fitted c =
    subst (λ (p : Plan). Fitted (inputs_of c.args.inputs.now) p) (sym c.plan.ensures) (fitted_at (inputs_of c.args.inputs.now) c.args.rows.now.rows c.args.place (c.at.result.0.0, c.at.result.1.now) c.requires.fitted c.at.ensures.value)

pub sources_if_same-requires-clause-known : goal.sources_if_same-requires-clause-known
sources_if_same-requires-clause-known c =
    let inputs = inputs_of c.args.inputs.now in
    let rows = c.args.rows.now.rows in
    let e : Entry = (c.at.result.0.0, c.at.result.1.now) in
    let d : Task = c.in-Some.done.now in
    let p : Plan = c.plan.result.now in
    let keeps : e.1.done ≡ Some d = of_plan_some e.1.plan e.1.done d c.in-Some.ensures.value in
    let plan : d.plan ≡ p = c.in-Some.ensures.same ∙ sym c.plan.ensures in
    let fit : Fitted inputs p = sources_if_same-requires-clause-plan_fitted c in
    let values : c.inputs-values.result.now ≡ d.inputs = c.inputs-values.ensures.value ∙ ap (λ (t : Task). t.inputs) c.order.ensures in
    subst (λ (xs : List FieldNumbers). KnownArePresent inputs rows c.args.place p xs c.sources.result.now.keys) (sym values)
    (subst (λ (known : List Source). KnownArePresent inputs rows c.args.place p d.inputs known) (sym c.sources.ensures)
    (known_present inputs rows c.args.place e d p c.at.ensures.value keeps plan c.requires.sound c.requires.fitted fit c.requires.named))
