use Rattle.std.specs.Vec.Iter.{into_iter_items}
use Rattle.paris_parts.proofs.Doings.{rest_so, together_next}
use Rattle.paris_parts.proofs.Stops.{EndsSo}
use Rattle.paris_parts.proofs.jobs.together.Goals as goal

pub loop-job-preserved : goal.loop-job-preserved
loop-job-preserved g c =
    let before = into_iter_items c.loop-job.job-iterator in
    let rest = into_iter_items c.next.new.self in record {
      can_next = tt;
      is_finite = tt;
      jobs =
          together_next c.loop-job.jobs.items c.keep-in-loop-job.new.jobs.items c.in-Some.job c.in_ok-job.field-0 before rest _ c.in-Some.ensures.steps.0 c.in_ok-job.was
          c.in_ok-keep-2.ensures.jobs c.loop-job.invariant.jobs;
      ends = rest_so (EndsSo g.L.Office.limit) c.in-Some.job before rest c.in-Some.ensures.steps.0 c.loop-job.invariant.ends;
    }
