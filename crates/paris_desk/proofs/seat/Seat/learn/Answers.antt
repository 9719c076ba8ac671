use Rattle.std.proofs.Common.{ℕ, max, ap, ◌∙◌}
use Rattle.paris_desk.specs.Seats.{SeatState, sitting}
use Rattle.paris_desk.proofs.seat.Seat.learn.Goals as goal

pub returns : goal.returns
returns g c =
    let s = c.self.inside in
    ap (λ (front : ℕ). sitting s.number s.receipts.items front s.known) c.max-self-inside.ensures ∙ ap (λ (z : SeatState). sitting z.number z.receipts (max z.front c.args.front.0) z.past) c.self.view_is
