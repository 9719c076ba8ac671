use Rattle.std.proofs.Common.{ap}
use Rattle.std.proofs.lemmas.Result.{err_from_is_err_and}
use Rattle.paris_events.specs.declared.events.Reply.TheVariants as ReplyCase
use Rattle.paris_desk.proofs.Calling.{told_as}
use Rattle.paris_desk.proofs.Turns.{turn_run, order_kept, order_left, order_refused}
use Rattle.paris_desk.proofs.working.run_one.Goals as goal

pub returns : goal.returns
returns g c =
    let taken = told_as g.L.Office.profile _ _ _ _ _ (ap (λ o. ReplyCase.Take o) c.in-Some.is) c.in_ok-order.ensures.recorded in
    record {
      turn = turn_run g.L.Office.profile _ _ _ _ _ _ taken c.in-Some-execute_inside.ensures c.in_default-bring.ensures.recorded;
      stopped = tt;
    }

pub returns-in-Err : goal.returns-in-Err
returns-in-Err g c =
    let taken = told_as g.L.Office.profile _ _ _ _ _ (ap (λ o. ReplyCase.Take o) c.in-Some.is) c.in_ok-order.ensures.recorded in
    record { turn = tt; stopped = order_left g.L.Office.profile g.L.Office.limit _ _ _ _ _ taken c.in-Err.ensures.unrecorded.1 }

pub returns-in_err-order-clause-stopped : goal.returns-in_err-order-clause-stopped
returns-in_err-order-clause-stopped g c =
    let p = err_from_is_err_and c.from_residual.result c.from_residual.ensures.1 in
    rw (p.1, p.2) (order_refused g.L.Office.limit c.args.seat.now c.take.new.seat _ c.in_err-order.ensures.unrecorded)

pub returns-in_default-execute_inside-clause-stopped : goal.returns-in_default-execute_inside-clause-stopped
returns-in_default-execute_inside-clause-stopped g c =
    order_kept g.L.Office.profile g.L.Office.limit _ _ _ (told_as g.L.Office.profile _ _ _ _ _ (ap (λ o. ReplyCase.Take o) c.in-Some.is) c.in_ok-order.ensures.recorded)
