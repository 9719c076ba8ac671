use Rattle.std.proofs.Common.{refl}
use Rattle.paris_desk.proofs.preparing.receipt_of.Goals as goal

pub returns : goal.returns
returns c = refl
