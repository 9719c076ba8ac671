-- Of the jobs so far.
use Rattle.std.proofs.Common.{take}
use Rattle.paris_parts.specs.Jobs.{IsWorst}
use Rattle.paris_parts.proofs.jobs.worst_fault.Given as goal

abbrev pub invariant-loop-job : goal.invariant-loop-job
invariant-loop-job g l = IsWorst (take l.job-index l.jobs) l.worst
