use Rattle.paris_model.proofs.Unstored.{leaves_unstored}
use Rattle.paris_model.proofs.laws.leaves_unstored.Goals as goal

pub returns : goal.returns
returns c = leaves_unstored
