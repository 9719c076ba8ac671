use Rattle.std.proofs.Common.{◌≡◌, ℕ, ◌<◌, length, get_or, false}
use Rattle.paris_field.specs.Numbers.{has, plane_at}
use Rattle.paris_scan.specs.Brings.{Brings}
use Rattle.paris_scan.proofs.partner.bring_planes.Given as goal

abbrev pub invariant-loop-k : goal.invariant-loop-k
invariant-loop-k l = record {
  long : (j : ℕ) → j < length l.source → length (plane_at l.out j) ≡ length (plane_at l.source j);
  brought : (j : ℕ) → j < l.k → (v : ℕ) → v < length (plane_at l.source j) → Brings false l.partner (length (plane_at l.source j)) (has (plane_at l.source j)) v (get_or (plane_at l.out j) v false);
}
