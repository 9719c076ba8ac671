use Rattle.std.proofs.Common.{◌≤◌, ap, subst, length}
use Rattle.paris_desk.specs.Seats.{SeatState}
use Rattle.paris_desk.proofs.seat.Seat.front.Goals as goal

pub returns : goal.returns
returns g c = record {
  value = ap (λ (s : SeatState). s.front) c.self.view_is;
  past = subst (λ (s : SeatState). length s.past ≤ c.self.inside.front) c.self.view_is c.self.invariant.2;
}
