use Rattle.std.proofs.Common.{◌∙◌, ap, sym}
use Rattle.paris_router.specs.Mail.{refusal_of}
use Rattle.paris_exec.specs.declared.orders.Outcome.TheVariants.{Values}
use Rattle.paris_exec.proofs.Executed.{direct_outcome, refused_outcome}
use Rattle.paris_exec.proofs.Operands.{if_ok}
use Rattle.paris_exec.proofs.execution.outcome_of.Goals as goal

pub returns-in_ok-shared-in-Ok : goal.returns-in_ok-shared-in-Ok
returns-in_ok-shared-in-Ok c =
    ap Values (c.new.ensures ∙ c.in_ok-shared-in-Ok.ensures)
    ∙ direct_outcome c.args.order.now c.in-Ok.values.items (ap refusal_of (sym c.in-Ok.is) ∙ c.in_ok-values.ensures.refused) (if_ok _ c.in-Ok.is c.in_ok-values.ensures.values)

pub returns-in-Err : goal.returns-in-Err
returns-in-Err c = refused_outcome c.args.order.now c.in-Err.cause (ap refusal_of (sym c.in-Err.is) ∙ c.in_ok-values.ensures.refused)
