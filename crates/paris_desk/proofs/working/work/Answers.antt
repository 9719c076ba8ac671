use Rattle.std.proofs.Common.{subst, arith}
use Rattle.std.proofs.lemmas.Result.{err_from_is_err_and}
use Rattle.paris_desk.specs.Work.{Turn}
use Rattle.paris_desk.proofs.Turns.{ran_more, worked_less, stopped}
use Rattle.paris_desk.proofs.working.work.Goals as goal

pub returns-in_err-run_one-clause-stopped : goal.returns-in_err-run_one-clause-stopped
returns-in_err-run_one-clause-stopped g c =
    let p = err_from_is_err_and c.from_residual.result c.from_residual.ensures.1 in
    rw (p.1, p.2) (stopped c.args.limit g.L.Office.limit c.loop-ran.ran c.args.seat.now c.loop-ran.seat c.run_one.new.seat _ (omega (arith, c.loop-ran-test.true)) c.loop-ran.invariant c.in_err-run_one.ensures.stopped)

pub loop-ran-preserved : goal.loop-ran-preserved
loop-ran-preserved g c =
    ran_more c.loop-ran.ran c.args.seat.now c.loop-ran.seat c.run_one.new.seat c.loop-ran.invariant
    (subst (λ ran. Turn ran c.loop-ran.seat c.run_one.new.seat) c.if-not-branch.false c.in_ok-run_one.ensures.turn)

pub returns-then-not-branch-clause-worked : goal.returns-then-not-branch-clause-worked
returns-then-not-branch-clause-worked g c =
    worked_less c.args.limit c.loop-ran.ran c.args.seat.now c.loop-ran.seat c.run_one.new.seat (omega (arith, c.loop-ran-test.true)) c.loop-ran.invariant
    (subst (λ ran. Turn ran c.loop-ran.seat c.run_one.new.seat) c.if-not-branch.true c.in_ok-run_one.ensures.turn)
