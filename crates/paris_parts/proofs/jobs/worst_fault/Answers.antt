use Rattle.std.proofs.Common.{Some, ap, ◌∙◌}
use Rattle.paris_parts.proofs.Stops.{worst_next_ended, worst_next_well}
use Rattle.paris_parts.proofs.jobs.worst_fault.Goals as goal
use Rattle.paris_parts.proofs.jobs.worst_fault.Goals.{in-Err, in_default}

pub loop-job-preserved : goal.loop-job-preserved
loop-job-preserved g c =
    let jobs = c.args.jobs.now in
    elim c.match-job.branch [
      | in-Err w ↦ worst_next_ended jobs c.loop-job.job-index c.job-item.result w.in-Err.fault c.loop-job.worst c.match-job.worst c.loop-job-test.true c.job-item.is w.in-Err.is
          (w.worst-is ∙ ap (λ f. Some f) w.worse.ensures) c.loop-job.invariant
      | in_default w ↦ worst_next_well jobs c.loop-job.job-index c.job-item.result w.in_default.field-0 c.loop-job.worst c.match-job.worst c.loop-job-test.true c.job-item.is w.in_default.is w.worst-is
          c.loop-job.invariant
    ]
