use Rattle.paris_model.proofs.Segments.{scan_is_uncut, copy_scan_is_uncut}
use Rattle.paris_model.proofs.laws.no_segments_no_cuts.Goals as goal

pub returns : goal.returns
returns c = record { scan = scan_is_uncut; copy = copy_scan_is_uncut }
