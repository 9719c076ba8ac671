use Rattle.paris_muldiv.proofs.Turned.{unlike_is}
use Rattle.paris_muldiv.proofs.signed_planes.unlike_signs.Goals as goal

pub returns : goal.returns
returns c =
    unlike_is c.args.bits c.args.x.now c.args.y.now c.plane.result.now c.plane-2.result.now c.in_ok-unlike.unlike c.requires.positive c.requires.same
    c.plane.ensures.long c.plane-2.ensures.long c.plane.ensures.at c.plane-2.ensures.at
    c.in_ok-unlike.ensures
