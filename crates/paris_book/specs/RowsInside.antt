-- How a book keeps a row: the plan alone, a result, which has it, or a plan and a result of another one.
use Rattle.std.specs.Prelude.{Option, Some, None, if◌then◌else◌}
use Rattle.paris_model.specs.Instructions.{Plan}
use Rattle.paris_instr.specs.PlanEq.{plan_eq}
use Rattle.paris_exec.specs.Tasks.{Task}
use Rattle.paris_book.specs.Rows.{RowData}
use Rattle.paris_book.specs.declared.rows.RowContent.{RowContent}
use Rattle.paris_book.specs.declared.rows.RowContent.TheVariants as HeldCase
use Rattle.paris_book.specs.declared.rows.RowData.TheInside.{Inside}

abbrev pub plan_held : RowContent → Plan
plan_held (HeldCase.Plan p) = p
plan_held (HeldCase.Done t) = t.plan
plan_held (HeldCase.Replaced p t) = p

abbrev pub done_held : RowContent → Option Task
done_held (HeldCase.Plan p) = None
done_held (HeldCase.Done t) = Some t
done_held (HeldCase.Replaced p t) = Some t

abbrev pub row_of : Inside → RowData
row_of r = record { plan = plan_held r.held; set_by = r.set_by; edition = r.edition; status = r.status; done = done_held r.held; sources = r.sources.keys }

-- a result, where it is of a plan
abbrev pub of_plan : Plan → Option Task → Option Task
of_plan p None = None
of_plan p (Some t) = if plan_eq p t.plan then Some t else None
