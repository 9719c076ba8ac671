use Rattle.std.proofs.Common.{refl}
use Rattle.paris_instr.proofs.ReflexivePlans.{plan_same}
use Rattle.paris_book.proofs.rows.RowContent.result_of_plan.Goals as goal

pub returns-in-Done-clause-value : goal.returns-in-Done-clause-value
returns-in-Done-clause-value c = rw (c.in-Done.is, plan_same c.in-Done.done.plan) refl
