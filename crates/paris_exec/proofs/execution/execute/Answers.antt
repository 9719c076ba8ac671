use Rattle.std.proofs.Common.{subst}
use Rattle.paris_model.specs.Fits.{IsFit}
use Rattle.paris_model.specs.Instructions.{Plan}
use Rattle.paris_exec.proofs.Frames.{gives, gives_directly, refused}
use Rattle.paris_exec.proofs.execution.execute.Goals as goal

pub returns-in-Ok-clause-frame : goal.returns-in-Ok-clause-frame
returns-in-Ok-clause-frame c = gives c.args.order

pub returns-in-Ok-clause-refused : goal.returns-in-Ok-clause-refused
returns-in-Ok-clause-refused c = refused c.args.order

pub returns-in-Err-clause-frame : goal.returns-in-Err-clause-frame
returns-in-Err-clause-frame c = gives c.args.order

pub returns-in-Err-clause-refused : goal.returns-in-Err-clause-refused
returns-in-Err-clause-refused c = refused c.args.order

pub returns-in-Ok-clause-direct : goal.returns-in-Ok-clause-direct
returns-in-Ok-clause-direct c = gives_directly c.args.order (subst (λ (p : Plan). IsFit p.axes p.action) c.plan.ensures c.action.ensures.fit)

pub returns-in-Err-clause-direct : goal.returns-in-Err-clause-direct
returns-in-Err-clause-direct c = gives_directly c.args.order (subst (λ (p : Plan). IsFit p.axes p.action) c.plan.ensures c.action.ensures.fit)
