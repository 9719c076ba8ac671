use Rattle.std.proofs.Common.{◌≡◌, ℕ, ◌+◌, ◌*◌, ◌<◌, length, take}
use Rattle.paris_field.specs.Numbers.{AllOf, number_at}
use Rattle.paris_muldiv.proofs.planes.put_products.Given as goal

abbrev pub invariant-loop-k : goal.invariant-loop-k
invariant-loop-k l = record {
  product : AllOf (length l.fn.carry) l.product;
  carry : length l.carry ≡ length l.fn.carry;
  masked : length l.masked ≡ length l.fn.carry;
  exact : (v : ℕ) → v < length l.fn.carry → number_at (take (l.k + length l.y) l.product) v ≡ number_at (take l.k l.x) v * number_at l.y v;
}
