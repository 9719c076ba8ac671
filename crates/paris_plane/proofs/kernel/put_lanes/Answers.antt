use Rattle.std.proofs.Common.{sym}
use Rattle.paris_plane.proofs.Blocks.{four_set}
use Rattle.paris_plane.proofs.kernel.put_lanes.Goals as goal

pub returns : goal.returns
returns c = sym (four_set c.args.at c.args.out.now c.args.lanes c.requires.four)
