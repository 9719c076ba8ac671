use Rattle.paris_desk.proofs.Calling.{told_as}
use Rattle.paris_desk.proofs.desk.Desk.bring.Goals as goal

pub returns-in-Ok-Bring : goal.returns-in-Ok-Bring
returns-in-Ok-Bring g c = record { recorded = told_as g.L.Office.profile _ _ _ _ _ c.in-Ok-Bring.field-0-is c.in-Ok-Bring.ensures.recorded; unrecorded = tt }
