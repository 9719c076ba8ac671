use Rattle.paris_geometry.proofs.Neighbours.{one_sender as only_sender}
use Rattle.paris_geometry.proofs.laws.one_sender.Goals as goal

pub returns : goal.returns
returns c = only_sender
