use Rattle.std.specs.Prelude.{◌≡◌, ◌+◌}
use Rattle.paris_desk.specs.Seats.{fresh}
use Rattle.paris_desk.proofs.desk.seated.Given as goal

abbrev pub invariant-loop-number : goal.invariant-loop-number
invariant-loop-number g l = (l.rest.parts + l.number ≡ l.seats) × (l.rest.amount ≡ 0) × (l.all.items ≡ fresh l.number)
