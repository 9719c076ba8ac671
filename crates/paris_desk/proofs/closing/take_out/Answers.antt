use Rattle.std.proofs.Common.{◌∙◌, sym, ap, List}
use Rattle.std.specs.List.{position}
use Rattle.std.specs.Prelude.{◌==◌}
use Rattle.paris_desk.specs.Seats.{SeatState}
use Rattle.paris_desk.proofs.Gathering.{found, not_none}
use Rattle.paris_desk.proofs.closing.take_out.Goals as goal

pub unreachable-requires : goal.unreachable-requires
unreachable-requires g c =
    let at = ap (λ (ss : List SeatState). position (λ (s : SeatState). s.number == c.args.number) ss) c.as_slice.ensures.value in
    not_none c.args.number c.args.seats.now.items c.requires (sym at ∙ sym c.place_of.ensures ∙ c.in-None.is)

pub returns-clause-receipts : goal.returns-clause-receipts
returns-clause-receipts g c =
    let at = ap (λ (ss : List SeatState). position (λ (s : SeatState). s.number == c.args.number) ss) c.as_slice.ensures.value in
    let f = found c.args.number c.in-Some.place c.args.seats.now.items c.requires (sym at ∙ sym c.place_of.ensures ∙ c.in-Some.is) in
    ap (λ (s : SeatState). s.receipts) c.remove.ensures.value ∙ f.receipts c.remove.result

pub returns-clause-others : goal.returns-clause-others
returns-clause-others g c n ne =
    let at = ap (λ (ss : List SeatState). position (λ (s : SeatState). s.number == c.args.number) ss) c.as_slice.ensures.value in
    let f = found c.args.number c.in-Some.place c.args.seats.now.items c.requires (sym at ∙ sym c.place_of.ensures ∙ c.in-Some.is) in
    rw c.remove.ensures.items (f.others n ne)

pub returns-clause-number : goal.returns-clause-number
returns-clause-number g c =
    let at = ap (λ (ss : List SeatState). position (λ (s : SeatState). s.number == c.args.number) ss) c.as_slice.ensures.value in
    let f = found c.args.number c.in-Some.place c.args.seats.now.items c.requires (sym at ∙ sym c.place_of.ensures ∙ c.in-Some.is) in
    ap (λ (s : SeatState). s.number) c.remove.ensures.value ∙ f.number c.remove.result

pub returns-clause-past : goal.returns-clause-past
returns-clause-past g c =
    let at = ap (λ (ss : List SeatState). position (λ (s : SeatState). s.number == c.args.number) ss) c.as_slice.ensures.value in
    let f = found c.args.number c.in-Some.place c.args.seats.now.items c.requires (sym at ∙ sym c.place_of.ensures ∙ c.in-Some.is) in
    ap (λ (s : SeatState). s.past) c.remove.ensures.value ∙ f.past c.remove.result
