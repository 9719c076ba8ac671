use Rattle.std.proofs.Common.{◌≡◌, ◌≤◌, ◌∙◌, List, length, ap, arith, subst}
use mathlib.Core.List.{IsPrefix}
use Rattle.paris_records.specs.declared.records.Entry.{Entry}
use Rattle.paris_desk.specs.Seats.{SeatState}
use Rattle.paris_desk.proofs.Joining.{back}
use Rattle.paris_desk.proofs.Pasts.{enters}
use Rattle.paris_view.proofs.Misses.{is_short}
use Rattle.paris_view.proofs.entered.enter.Goals as goal

pub enter_as-requires : goal.enter_as-requires
enter_as-requires g c x = enters g.L.Office.profile g.L.Office.log _ _ x

pub returns-in-Err : goal.returns-in-Err
returns-in-Err g c = back _ _ _ _ c.join.ensures c.part-looker.ensures.rest c.part-looker.ensures.looker.1 c.part-looker.ensures.within

pub returns-then-count-len : goal.returns-then-count-len
returns-then-count-len g c = back _ _ _ _ c.join-then-count-len.ensures c.part-looker.ensures.rest c.part-looker.ensures.looker.1 c.part-looker.ensures.within

pub returns-then-front-count : goal.returns-then-front-count
returns-then-front-count g c =
    let known : c.part-looker.result.0.known ≡ c.args.seat.past = c.part-looker.ensures.looker.1 in
    let near : length c.part-looker.result.0.known ≤ length c.past-met.result = omega (arith, c.len.ensures.count, c.len-count.ensures.count, c.if-count-len.false) in
    let begins : IsPrefix c.args.seat.past c.past-met.result = subst (λ (z : List Entry). IsPrefix z c.past-met.result) known (c.compare.ensures near) in
    let front = c.front-front.ensures ∙ ap (λ (s : SeatState). s.front) c.part-looker.ensures.rest in
    is_short g.L.Office.profile c.front-front.result.0 c.len-count.result c.args.seat c.join-then-front-count.result c.part-looker.result.1 c.past-met.result c.part-looker.ensures.rest begins c.len-count.ensures.legal front (omega (arith, c.if-front-count.true, front)) c.len-count.ensures.count c.join-then-front-count.ensures
