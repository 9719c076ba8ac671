-- The seats so far, and those of the jobs that are left, are all seats.
use Rattle.std.proofs.Common.{◌≡◌, ◌++◌, map}
use Rattle.std.specs.Vec.Iter.{into_iter_items}
use Rattle.paris_parts.specs.Jobs.{Doing}
use Rattle.paris_parts.proofs.outcome.seats_of.Given as goal

abbrev pub invariant-loop-job : goal.invariant-loop-job
invariant-loop-job g l = record {
  can_next : (goal.iterator-loop-job g).can_next l.job-iterator;
  is_finite : (goal.iterator-loop-job g).is_finite l.job-iterator;
  seats : l.seats.items ++ map (λ (d : Doing). d.seat) (into_iter_items l.job-iterator) ≡ map (λ (d : Doing). d.seat) l.fn.jobs.items;
}
