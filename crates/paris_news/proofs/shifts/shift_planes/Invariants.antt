use Rattle.std.proofs.Common.{◌≡◌, ℕ, ◌<◌, length, take}
use Rattle.paris_geometry.specs.Geometry.{neighbour, processor_count}
use Rattle.paris_field.specs.Numbers.{AllOf, number_at}
use Rattle.paris_news.proofs.shifts.shift_planes.Given as goal

abbrev pub invariant-loop-k : goal.invariant-loop-k
invariant-loop-k l = record {
  count : length l.planes.items ≡ l.k;
  long : AllOf (processor_count l.geometry) l.planes.items;
  at : (v : ℕ) → v < processor_count l.geometry → number_at l.planes.items v ≡ number_at (take l.k l.source) (neighbour l.geometry l.axis l.direction v);
}
