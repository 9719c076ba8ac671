use Rattle.std.proofs.Common.{◌≡◌, ℕ, ◌+◌, ◌*◌, ◌<◌, length}
use Rattle.paris_field.specs.Numbers.{has, plane_at}
use Rattle.paris_scan.proofs.columns.repeated_planes.Given as goal

abbrev pub invariant-loop-k : goal.invariant-loop-k
invariant-loop-k l = record {
  count : length l.made.items ≡ l.k;
  long : (j : ℕ) → j < l.k → length (plane_at l.made.items j) ≡ l.runs * (l.count * (64 * l.words));
  at : (j p c o : ℕ) → j < l.k → p < l.runs → c < l.count → o < 64 * l.words → has (plane_at l.made.items j) (p * (l.count * (64 * l.words)) + (c * (64 * l.words) + o)) ≡ has (plane_at l.planes j) (p * (64 * l.words) + o);
}
