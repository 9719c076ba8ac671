use Rattle.paris_plane.specs.Words.{tested}
use Rattle.paris_scan.proofs.near.has_bit.Goals as goal

pub returns : goal.returns
returns c = tested c.args.word c.args.i
