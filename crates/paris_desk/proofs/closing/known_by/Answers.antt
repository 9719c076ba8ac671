use Rattle.std.proofs.Common.{◌∙◌, sym, ap, length}
use Rattle.paris_desk.specs.Seats.{SeatState}
use Rattle.paris_desk.proofs.Gathering.{found, not_none}
use Rattle.paris_desk.proofs.closing.known_by.Goals as goal

pub bounds-seats-place : goal.bounds-seats-place
bounds-seats-place g c =
    let f = found c.args.number c.in-Some.place c.args.seats.now c.requires (sym c.place_of.ensures ∙ c.in-Some.is) in f.within

pub unreachable-requires : goal.unreachable-requires
unreachable-requires g c = not_none c.args.number c.args.seats.now c.requires (sym c.place_of.ensures ∙ c.in-None.is)

pub returns : goal.returns
returns g c =
    let f = found c.args.number c.in-Some.place c.args.seats.now c.requires (sym c.place_of.ensures ∙ c.in-Some.is) in
    let past = ap (λ (s : SeatState). s.past) c.seat.view_is ∙ ap (λ (s : SeatState). s.past) c.index-seats-place.is ∙ f.past c.index-seats-place.result in
    c.len.ensures.count ∙ ap length past
