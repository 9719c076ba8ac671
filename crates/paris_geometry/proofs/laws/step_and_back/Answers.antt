use Rattle.paris_geometry.proofs.Neighbours.{step_back}
use Rattle.paris_geometry.proofs.laws.step_and_back.Goals as goal

pub returns : goal.returns
returns c = step_back
