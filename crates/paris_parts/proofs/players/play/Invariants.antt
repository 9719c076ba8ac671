use Rattle.std.proofs.Common.{◌≤◌, map, take}
use Rattle.paris_parts.specs.Moving.{HasPlayed}
use Rattle.paris_parts.specs.Seeing.{IsInTime}
use Rattle.paris_parts.proofs.players.play.Given as goal

abbrev pub invariant-loop-line : goal.invariant-loop-line
invariant-loop-line g l =
    HasPlayed g.L.Office.profile l.fn.seat l.seat (map (λ line. line.items) (take l.line-index l.lines)) l.hand.hand l.text.items × (l.hand.hand.commands ≤ l.line-index) × IsInTime l.seat
