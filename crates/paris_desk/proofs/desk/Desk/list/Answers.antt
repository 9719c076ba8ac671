use Rattle.paris_desk.proofs.Calling.{told_as}
use Rattle.paris_desk.proofs.desk.Desk.list.Goals as goal

pub returns-in-Ok-List : goal.returns-in-Ok-List
returns-in-Ok-List g c = record { recorded = told_as g.L.Office.profile _ _ _ _ _ c.in-Ok-List.field-0-is c.in-Ok-List.ensures.recorded; unrecorded = tt }
