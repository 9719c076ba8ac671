use Rattle.paris_desk.proofs.Calling.{told_as, edit_made, edit_told}
use Rattle.paris_desk.proofs.desk.Desk.edit.Goals as goal

pub returns-in-Ok-Edit-clause-recorded : goal.returns-in-Ok-Edit-clause-recorded
returns-in-Ok-Edit-clause-recorded g c = edit_told g.L.Office.profile _ _ _ _ (told_as g.L.Office.profile _ _ _ _ _ c.in-Ok-Edit.field-0-is c.in-Ok-Edit.ensures.recorded)

pub returns-in-Ok-Edit-clause-refused : goal.returns-in-Ok-Edit-clause-refused
returns-in-Ok-Edit-clause-refused g c = edit_made g.L.Office.profile g.L.Office.limit _ _ _ _ (told_as g.L.Office.profile _ _ _ _ _ c.in-Ok-Edit.field-0-is c.in-Ok-Edit.ensures.recorded)
