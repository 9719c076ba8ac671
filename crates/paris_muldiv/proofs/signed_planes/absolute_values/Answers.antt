use Rattle.std.proofs.Common.{◌∙◌}
use Rattle.paris_muldiv.proofs.Turned.{absolute_is}
use Rattle.paris_muldiv.proofs.signed_planes.absolute_values.Goals as goal

pub returns : goal.returns
returns c = c.in_ok-turned.ensures.value ∙ absolute_is c.args.bits c.args.x.now c.plane.result.now c.requires.positive c.plane.ensures.at
