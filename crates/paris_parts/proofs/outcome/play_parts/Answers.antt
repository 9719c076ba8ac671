use Rattle.std.proofs.Common.{◌≤◌, sym, subst, arith, List, length}
use Rattle.std.specs.List.{All}
use Rattle.paris_desk.specs.Seats.{SeatState, fresh}
use Rattle.paris_parts.specs.Jobs.{AreDone, IsNew}
use Rattle.paris_parts.proofs.Runs.{all_few, all_long, fresh_length, fresh_new}
use Rattle.paris_parts.proofs.outcome.play_parts.Goals as goal

pub run_all-requires-clause-seats : goal.run_all-requires-clause-seats
run_all-requires-clause-seats g c κs within =
    let long = fresh_length c.args.count in
    let some = c.requires.seats.1 in (
      subst (λ (l : List SeatState). 1 ≤ length l) (sym c.requires.seats.0) (omega (arith, long, some)),
      subst (All IsNew) (sym c.requires.seats.0) (fresh_new c.args.count),
    )

pub gathered-requires-clause-count : goal.gathered-requires-clause-count
gathered-requires-clause-count g c =
    let done : AreDone g.L.Office.profile c.args.parts.now (fresh c.args.count) c.in_ok-jobs.jobs.items = subst (λ (l : List SeatState). AreDone g.L.Office.profile c.args.parts.now l c.in_ok-jobs.jobs.items) c.requires.seats.0 c.in_ok-jobs.ensures.done in
    let long = all_long g.L.Office.profile c.args.parts.now c.args.count c.in_ok-jobs.jobs.items done in (
      omega (arith, long, c.requires.seats.3),
      omega (arith, c.requires.seats.2, c.requires.seats.3),
    )

pub gathered-requires-clause-few : goal.gathered-requires-clause-few
gathered-requires-clause-few g c =
    let done : AreDone g.L.Office.profile c.args.parts.now (fresh c.args.count) c.in_ok-jobs.jobs.items = subst (λ (l : List SeatState). AreDone g.L.Office.profile c.args.parts.now l c.in_ok-jobs.jobs.items) c.requires.seats.0 c.in_ok-jobs.ensures.done in
    all_few g.L.Office.profile c.args.parts.now c.args.count c.in_ok-jobs.jobs.items c.requires.parts c.requires.seats.3 done

pub returns-clause-done : goal.returns-clause-done
returns-clause-done g c =
    let done : AreDone g.L.Office.profile c.args.parts.now (fresh c.args.count) c.in_ok-jobs.jobs.items = subst (λ (l : List SeatState). AreDone g.L.Office.profile c.args.parts.now l c.in_ok-jobs.jobs.items) c.requires.seats.0 c.in_ok-jobs.ensures.done in
    (c.in_ok-jobs.jobs.items, done, c.in_ok-gathered.ensures.left)
