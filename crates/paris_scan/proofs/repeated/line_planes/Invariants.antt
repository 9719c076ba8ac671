-- The planes so far hold the low bits.
use Rattle.std.proofs.Common.{◌≡◌, ◌<◌, ◌/◌, ◌%◌, ◌^◌, ℕ, length}
use Rattle.std.specs.Prelude.{slice_index}
use Rattle.paris_field.specs.Numbers.{AllOf, number_at}
use Rattle.paris_scan.proofs.repeated.line_planes.Given as goal

abbrev pub invariant-loop-k : goal.invariant-loop-k
invariant-loop-k l = record {
  width : length l.planes.items ≡ l.k;
  long : AllOf (l.vps) l.planes.items;
  numbers : (v : ℕ) → v < l.vps → number_at l.planes.items v ≡ slice_index l.numbers (v / l.count) % 2 ^ l.k;
}
