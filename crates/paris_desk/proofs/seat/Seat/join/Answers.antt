use Rattle.std.proofs.Common.{◌≡◌, sym, ap, ◌∙◌, inl, inr, arith}
use Rattle.paris_desk.specs.Seats.{SeatState}
use Rattle.paris_desk.proofs.Joining.{Takes, joined, part_taken}
use Rattle.paris_desk.proofs.seat.Seat.join.Goals as goal
use Rattle.paris_desk.proofs.seat.Seat.join.Goals.{then-len, else-len}

pub invariant_of-result : goal.invariant_of-result
invariant_of-result g c =
    let v = c.rest.invariant in
    let same : c.args.looker.number ≡ c.rest.inside.number = c.requires ∙ sym (ap (λ (s : SeatState). s.number) c.rest.view_is) in
    let t : Takes c.args.looker.known c.rest.inside.known c.if-len.known2 = elim c.if-len.branch [ then-len w ↦ inl (w.known2-is, omega arith) | else-len w ↦ inr (w.known2-is, omega arith) ] in
    (v.0, v.1, omega arith, part_taken _ _ _ c.args.looker.known c.rest.inside.known c.if-len.known2 same v.3 t c.compare-2.ensures)

pub returns : goal.returns
returns g c =
    let t : Takes c.args.looker.known c.rest.inside.known c.if-len.known2 = elim c.if-len.branch [ then-len w ↦ inl (w.known2-is, omega arith) | else-len w ↦ inr (w.known2-is, omega arith) ] in
    joined c.args.rest _ _ _ _ _ c.args.looker.known c.rest.inside.known c.if-len.known2 (sym c.rest.view_is) t c.compare.ensures c.compare-2.ensures c.requires (omega arith)
