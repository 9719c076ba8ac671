-- The jobs so far, and those that are left, are all jobs. Those that are left and ended are ended by what stops a run.
use Rattle.std.proofs.Common.{◌≡◌, ◌++◌, ◌∷◌, Ok, map}
use Rattle.std.specs.List.{All}
use Rattle.std.specs.Vec.Iter.{into_iter_items}
use Rattle.paris_parts.proofs.Stops.{EndsSo}
use Rattle.paris_parts.proofs.jobs.together.Given as goal

abbrev pub invariant-loop-job : goal.invariant-loop-job
invariant-loop-job g l = record {
  can_next : (goal.iterator-loop-job g).can_next l.job-iterator;
  is_finite : (goal.iterator-loop-job g).is_finite l.job-iterator;
  jobs : map Ok l.jobs.items ++ into_iter_items l.job-iterator ≡ Ok l.fn.first ∷ l.fn.others.items;
  ends : All (EndsSo g.L.Office.limit) (into_iter_items l.job-iterator);
}
