use Rattle.paris_desk.proofs.Calling.{told_as}
use Rattle.paris_desk.proofs.desk.Desk.take.Goals as goal

pub returns-in-Ok-Take : goal.returns-in-Ok-Take
returns-in-Ok-Take g c = record { recorded = told_as g.L.Office.profile _ _ _ _ _ c.in-Ok-Take.field-0-is c.in-Ok-Take.ensures.recorded; unrecorded = tt }
