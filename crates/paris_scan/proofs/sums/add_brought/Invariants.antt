use Rattle.std.proofs.Common.{◌≡◌, ℕ, ◌+◌, ◌*◌, ◌^◌, ◌<◌, length, take, drop}
use Rattle.paris_field.specs.Numbers.{AllOf, bit_in, number_at}
use Rattle.paris_scan.specs.Brings.{SumBrought}
use Rattle.paris_scan.proofs.sums.add_brought.Given as goal

abbrev pub invariant-loop-k : goal.invariant-loop-k
invariant-loop-k l = record {
  long : length l.carry ≡ length l.fn.carry;
  scratch_long : length l.scratch ≡ length l.fn.carry;
  planes : AllOf (length l.fn.carry) l.state;
  exact : (v : ℕ) → v < length l.fn.carry → bit_in l.fn.carry v ≡ 0 → SumBrought l.partner (length l.fn.carry) (take l.k l.fn.state) l.k v (number_at (take l.k l.state) v + 2 ^ l.k * bit_in l.carry v);
  high : drop l.k l.state ≡ drop l.k l.fn.state;
}
