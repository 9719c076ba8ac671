use Rattle.std.proofs.Common.{◌≡◌, ℕ, ◌+◌, ◌*◌, ◌^◌, ◌<◌, length, take, drop}
use Rattle.paris_field.specs.Numbers.{AllOf, bit_in, number_at}
use Rattle.paris_scan.proofs.halves.add_planes.Given as goal

abbrev pub invariant-loop-k : goal.invariant-loop-k
invariant-loop-k l = record {
  long : length l.carry ≡ length l.fn.carry;
  planes : AllOf (length l.fn.carry) l.sum;
  exact : (v : ℕ) → v < length l.fn.carry → bit_in l.fn.carry v ≡ 0 → number_at (take l.k l.sum) v + 2 ^ l.k * bit_in l.carry v ≡ number_at (take l.k l.x) v + number_at (take l.k l.fn.sum) v;
  high : drop l.k l.sum ≡ drop l.k l.fn.sum;
}
