use Rattle.std.proofs.Common.{◌≡◌, ℕ, ◌+◌, ◌*◌, ◌^◌, ◌<◌, length, take}
use Rattle.paris_field.specs.Numbers.{AllOf, bit_in, number_at}
use Rattle.paris_alu.proofs.planes.opposite_planes.Given as goal

abbrev pub invariant-loop-k : goal.invariant-loop-k
invariant-loop-k l = record {
  long : length l.borrow ≡ length l.fn.borrow;
  count : length l.planes.items ≡ l.k;
  planes : AllOf (length l.fn.borrow) l.planes.items;
  exact : (v : ℕ) → v < length l.fn.borrow → 2 ^ l.k * bit_in l.borrow v ≡ number_at l.planes.items v + number_at (take l.k l.x) v + bit_in l.fn.borrow v;
}
