use Rattle.paris_model.proofs.Direct.{one_direct, refused_leaves}
use Rattle.paris_model.proofs.laws.one_is_direct.Goals as goal

pub returns : goal.returns
returns c = record { stores = one_direct; refused = refused_leaves }
