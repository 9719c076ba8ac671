use Rattle.std.proofs.Common.{refl}
use Rattle.paris_desk.proofs.preparing.entry_of.Goals as goal

pub returns : goal.returns
returns c = refl
