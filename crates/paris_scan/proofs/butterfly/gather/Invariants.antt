use Rattle.std.proofs.Common.{◌≡◌, ℕ, ◌+◌, ◌-◌, ◌^◌, ◌<◌, ◌≤◌, List, length}
use Rattle.std.specs.Prelude.{All}
use Rattle.std.specs.Int.{IsPowerOfTwo}
use Rattle.paris_geometry.specs.Geometry.{processor_count, stride}
use Rattle.paris_field.specs.Numbers.{AllOf, number_at}
use Rattle.paris_scan.specs.Blocks.{block}
use Rattle.paris_scan.proofs.butterfly.gather.Given as goal

abbrev pub invariant-loop-places : goal.invariant-loop-places
invariant-loop-places g l = record {
  power : IsPowerOfTwo l.places;
  some : 0 < l.places;
  room : l.places ≤ l.length;
  long : AllOf (processor_count l.fn.geometry) l.state;
  brought_long : AllOf (processor_count l.fn.geometry) l.brought;
  spare_long : length l.spare ≡ processor_count l.fn.geometry;
  lines : (L : ℕ) (own : ℕ → List ℕ) → length l.fn.state ≡ L + g.C.Combine.extra → ((u : ℕ) → All (λ x. x < 2 ^ L) (own u)) → ((v : ℕ) → v < processor_count l.fn.geometry → number_at l.fn.state v ≡ g.C.Combine.shows L (own v))
      → (v : ℕ) → v < processor_count l.fn.geometry → number_at l.state v ≡ g.C.Combine.shows L (block own (stride l.fn.geometry l.axis) l.places v);
}

abbrev pub decreases-loop-places : goal.decreases-loop-places
decreases-loop-places g l = l.length - l.places
