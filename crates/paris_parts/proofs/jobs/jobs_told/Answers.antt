use Rattle.std.proofs.Common.{[], ◌∷◌, ◌++◌, Ok, ap, ◌∙◌}
use Rattle.std.specs.Vec.Iter.{into_iter_items}
use Rattle.paris_parts.specs.Jobs.{Doing}
use Rattle.paris_parts.proofs.Doings.{begun_more}
use Rattle.paris_parts.proofs.jobs.jobs_told.Goals as goal

pub loop-seat-preserved : goal.loop-seat-preserved
loop-seat-preserved g c = record {
  can_next = tt;
  is_finite = tt;
  jobs =
      begun_more g.L.Office.profile c.args.first.now c.in-Some.seat c.told.result c.args.seats.items (into_iter_items c.loop-seat.seat-iterator) (into_iter_items c.next.new.self)
      c.loop-seat.jobs.items c.push.new.self.items c.in-Some.ensures.steps.0 c.told.ensures
      (c.in_ok-push.ensures.items ∙ ap (λ (d : Doing). c.loop-seat.jobs.items ++ Ok d ∷ []) c.new.ensures) c.loop-seat.invariant.jobs;
}
