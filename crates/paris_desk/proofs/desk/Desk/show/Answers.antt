use Rattle.paris_desk.proofs.Calling.{told_as, show_made, show_told}
use Rattle.paris_desk.proofs.desk.Desk.show.Goals as goal

pub returns-in-Ok-Show-clause-recorded : goal.returns-in-Ok-Show-clause-recorded
returns-in-Ok-Show-clause-recorded g c = show_told g.L.Office.profile _ _ _ _ _ (told_as g.L.Office.profile _ _ _ _ _ c.in-Ok-Show.field-0-is c.in-Ok-Show.ensures.recorded)

pub returns-in-Ok-Show-clause-refused : goal.returns-in-Ok-Show-clause-refused
returns-in-Ok-Show-clause-refused g c = show_made g.L.Office.profile g.L.Office.limit _ _ _ _ _ (told_as g.L.Office.profile _ _ _ _ _ c.in-Ok-Show.field-0-is c.in-Ok-Show.ensures.recorded)
