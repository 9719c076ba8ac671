use Rattle.std.proofs.Common.{◌≡◌, drop, []}
use Rattle.paris_desk.proofs.publishing.publish.Given as goal

abbrev pub invariant-loop : goal.invariant-loop
invariant-loop g l =
    (goal.iterator-loop g).can_next l.iterator' × (goal.iterator-loop g).is_finite l.iterator'
    × (l.writer.desk.shown.value ≡ l.fn.start.desk.shown.value) × (drop l.writer.behind l.writer.log.items ≡ []) × (l.shown ≡ l.fn.next)
