-- Each seat that is gone has its job.
use Rattle.std.specs.Vec.Iter.{into_iter_items}
use Rattle.paris_parts.proofs.Doings.{AreBegun}
use Rattle.paris_parts.proofs.jobs.jobs_told.Given as goal

abbrev pub invariant-loop-seat : goal.invariant-loop-seat
invariant-loop-seat g l = record {
  can_next : (goal.iterator-loop-seat g).can_next l.seat-iterator;
  is_finite : (goal.iterator-loop-seat g).is_finite l.seat-iterator;
  jobs : AreBegun g.L.Office.profile l.fn.first l.fn.seats.items (into_iter_items l.seat-iterator) l.jobs.items;
}
