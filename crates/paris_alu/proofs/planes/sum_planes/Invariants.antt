use Rattle.std.proofs.Common.{◌≡◌, ℕ, ◌+◌, ◌*◌, ◌^◌, ◌<◌, length, take}
use Rattle.paris_field.specs.Numbers.{AllOf, bit_in, number_at}
use Rattle.paris_alu.proofs.planes.sum_planes.Given as goal

abbrev pub invariant-loop-k : goal.invariant-loop-k
invariant-loop-k l = record {
  long : length l.carry ≡ length l.fn.carry;
  count : length l.planes.items ≡ l.k;
  planes : AllOf (length l.fn.carry) l.planes.items;
  exact : (v : ℕ) → v < length l.fn.carry → number_at l.planes.items v + 2 ^ l.k * bit_in l.carry v ≡ number_at (take l.k l.x) v + number_at (take l.k l.y) v + bit_in l.fn.carry v;
}
