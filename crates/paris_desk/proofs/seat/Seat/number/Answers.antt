use Rattle.std.proofs.Common.{ap}
use Rattle.paris_desk.specs.Seats.{SeatState}
use Rattle.paris_desk.proofs.seat.Seat.number.Goals as goal

pub returns : goal.returns
returns g c = ap (λ (s : SeatState). s.number) c.self.view_is
