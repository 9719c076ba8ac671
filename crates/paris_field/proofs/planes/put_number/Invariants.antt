use Rattle.std.proofs.Common.{◌≡◌, ◌≢◌, ℕ, ◌+◌, ◌*◌, ◌^◌, take}
use Rattle.paris_field.specs.Numbers.{AllOf, number_at}
use Rattle.paris_field.proofs.planes.put_number.Given as goal

abbrev pub invariant-loop-k : goal.invariant-loop-k
invariant-loop-k l = record {
  long : AllOf l.vps l.planes;
  number : number_at (take l.k l.planes) l.v + 2 ^ l.k * l.rest ≡ l.number;
  others : (u : ℕ) → u ≢ l.v → number_at l.planes u ≡ number_at l.fn.planes u;
}
