use Rattle.paris_plane_tests.proofs.beside.is_left.Goals as goal

pub outcome-requires : goal.outcome-requires
outcome-requires c = c.requires c.args.inputs.now.axes
