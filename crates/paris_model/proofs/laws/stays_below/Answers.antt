use Rattle.paris_model.proofs.Widths.{after_fits}
use Rattle.paris_model.proofs.laws.stays_below.Goals as goal

pub returns : goal.returns
returns c = after_fits
