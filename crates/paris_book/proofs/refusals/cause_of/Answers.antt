use Rattle.std.proofs.Common.{Some, None, sym, ap, ◌∙◌}
use Rattle.paris_edits.specs.Rows.{is_settled}
use Rattle.paris_exec.specs.Tasks.{numbers_of}
use Rattle.paris_book.proofs.RefusedRows.{refused_told, values_told, kept_cause}
use Rattle.paris_book.proofs.refusals.cause_of.Goals as goal

pub returns-in-Refused : goal.returns-in-Refused
returns-in-Refused c =
    kept_cause (c.args.id.0, c.args.row.now) c.in-Some.done.now (Some c.in-Refused.cause) (ap is_settled (sym c.status.ensures) ∙ sym c.is_settled.ensures ∙ c.if-not-is_settled.false) (sym c.in-Some.ensures)
    (refused_told c.in-Some.done.now.plan (numbers_of c.in-Some.done.now.inputs) c.in-Refused.cause (sym c.in-Refused.is ∙ c.outcome.ensures))

pub returns-in-Values : goal.returns-in-Values
returns-in-Values c =
    kept_cause (c.args.id.0, c.args.row.now) c.in-Some.done.now None (ap is_settled (sym c.status.ensures) ∙ sym c.is_settled.ensures ∙ c.if-not-is_settled.false) (sym c.in-Some.ensures)
    (values_told c.in-Some.done.now.plan (numbers_of c.in-Some.done.now.inputs) c.in-Values.field-0 (sym c.in-Values.is ∙ c.outcome.ensures))
