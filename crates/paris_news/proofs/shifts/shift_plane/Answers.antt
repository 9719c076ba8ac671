use Rattle.std.proofs.Common.{◌∙◌}
use Rattle.paris_news.proofs.Shifted.{shifted_same}
use Rattle.paris_news.proofs.shifts.shift_plane.Goals as goal

pub returns-in-Some : goal.returns-in-Some
returns-in-Some c =
    c.filled.ensures
    ∙ shifted_same c.args.geometry c.args.axis c.args.direction c.vps.result c.in-Some.bit c.args.x.now c.vps.ensures.sound c.requires.axis c.vps.ensures.value c.requires.count c.in-Some.ensures
