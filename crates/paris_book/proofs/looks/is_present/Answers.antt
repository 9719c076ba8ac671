use Rattle.std.proofs.Common.{sym, subst}
use Rattle.paris_model.specs.Instructions.{Plan}
use Rattle.paris_book.specs.Among.{inputs_of}
use Rattle.paris_book.specs.Whole.{Fitted}
use Rattle.paris_book.proofs.Shows.{fitted_at}
use Rattle.paris_book.proofs.looks.is_present.Goals as goal

pub sources_if_same-requires-clause-plan_fitted : goal.sources_if_same-requires-clause-plan_fitted
sources_if_same-requires-clause-plan_fitted c =
    subst (λ (p : Plan). Fitted (inputs_of c.args.inputs.now) p) (sym c.plan-then-equals.ensures) (fitted_at (inputs_of c.args.inputs.now) c.args.rows.now.rows c.args.place (c.at.result.0.0, c.at.result.1.now) c.requires.fitted c.at.ensures.value)
