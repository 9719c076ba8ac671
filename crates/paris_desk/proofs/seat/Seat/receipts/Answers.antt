use Rattle.std.proofs.Common.{ap, ◌∙◌}
use Rattle.paris_desk.specs.Seats.{SeatState}
use Rattle.paris_desk.proofs.seat.Seat.receipts.Goals as goal

pub returns : goal.returns
returns g c = c.as_slice.ensures.value ∙ ap (λ (s : SeatState). s.receipts) c.self.view_is
