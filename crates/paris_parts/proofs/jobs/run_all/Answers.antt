use Rattle.std.proofs.Common.{List, ◌∷◌, Ok, sym, ap, ◌∙◌, subst}
use Rattle.std.specs.Prelude.{Result, IfOk}
use Rattle.std.specs.List.{All}
use Rattle.paris_names.specs.declared.faults.Fault.{Fault}
use Rattle.paris_desk.specs.Seats.{SeatState}
use Rattle.paris_parts.specs.Jobs.{AreTold, Doing, JobHasRun, IsNew}
use Rattle.paris_parts.specs.Seeing.{IsInTime}
use Rattle.paris_parts.proofs.Doings.{all_done, are_done, first_seat, new_rest, told_all_in_time}
use Rattle.paris_parts.proofs.Runs.{written_back}
use Rattle.paris_parts.proofs.jobs.run_all.Goals as goal

pub run_at_once-requires-clause-time : goal.run_at_once-requires-clause-time
run_at_once-requires-clause-time g c κs within =
    let new = subst (All IsNew) (sym c.remove.ensures.items) (new_rest c.args.seats.items c.requires.seats.1) in
    subst (All (λ (job : Result Doing Fault). IfOk job (λ begun. IsInTime begun.seat))) (sym c.as_mut_slice.ensures.value)
    (told_all_in_time g.L.Office.profile c.first.inside.seat c.remove.new.self.items c.in_ok-others.others.items new c.in_ok-others.ensures)

pub returns-in-None-clause-done : goal.returns-in-None-clause-done
returns-in-None-clause-done g c =
    let parts = c.args.parts.now in
    let first : Doing = c.in_ok-first.first in
    let jobs : List (Result Doing Fault) = c.run_at_once.new.jobs in
    let are = first_seat c.args.seats.items c.remove.new.self.items c.remove.result c.requires.seats.0 c.remove.ensures.value c.remove.ensures.items in
    let run : JobHasRun g.L.Office.profile parts c.remove.result first = subst (λ (b : Doing). JobHasRun g.L.Office.profile parts b.seat first) c.new.ensures c.in_ok-first.ensures.run in
    let told : AreTold g.L.Office.profile first.seat c.remove.new.self.items c.as_mut_slice.result.now =
    subst (AreTold g.L.Office.profile first.seat c.remove.new.self.items) (sym c.as_mut_slice.ensures.value)
    (subst (λ (s : SeatState). AreTold g.L.Office.profile s c.remove.new.self.items c.in_ok-others.others.items) (ap (λ (d : Doing). d.seat) c.first.view_is) c.in_ok-others.ensures) in
    let back = written_back c.in_ok-others.others.len jobs c.in_ok-others.others.items (c.run_at_once.ensures.len ∙ c.as_mut_slice.ensures.len) in
    all_done g.L.Office.profile parts c.args.seats.items _ _ c.together.result c.together.ensures.jobs
    (λ ds same. are_done g.L.Office.profile g.L.Office.limit parts c.args.seats.items c.remove.new.self.items c.remove.result first c.as_mut_slice.result.now jobs ds are run told c.run_at_once.ensures.each
    c.run_at_once.ensures.len (same ∙ (λ i. Ok first ∷ back i)))
