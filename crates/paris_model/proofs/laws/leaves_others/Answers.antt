use Rattle.paris_model.proofs.Worlds.{leaves}
use Rattle.paris_model.proofs.laws.leaves_others.Goals as goal

pub returns : goal.returns
returns c = leaves
