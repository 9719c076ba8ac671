use Rattle.std.proofs.Common.{◌≡◌, ℕ, ◌+◌, ◌-◌, ◌^◌, ◌<◌, List, length, get_or, false}
use Rattle.std.specs.Prelude.{All}
use Rattle.paris_geometry.specs.Geometry.{processor_count, stride}
use Rattle.paris_field.specs.Numbers.{AllOf, number_at}
use Rattle.paris_scan.specs.Runs.{begun_within, segment_run}
use Rattle.paris_scan.proofs.doubling.double.Given as goal

abbrev pub invariant-loop-places : goal.invariant-loop-places
invariant-loop-places g l = record {
  some : 0 < l.places;
  begun_long : length l.begun ≡ processor_count l.fn.geometry;
  long : AllOf (processor_count l.fn.geometry) l.state;
  brought_long : AllOf (processor_count l.fn.geometry) l.brought;
  spare_long : length l.spare ≡ processor_count l.fn.geometry;
  within : (v : ℕ) → v < processor_count l.fn.geometry → get_or l.begun v false ≡ begun_within (λ u. get_or l.fn.begun u false) l.direction (stride l.fn.geometry l.axis) l.places v;
  runs : (L : ℕ) (own : ℕ → List ℕ) → length l.fn.state ≡ L + g.C.Combine.extra → ((u : ℕ) → All (λ x. x < 2 ^ L) (own u)) → ((v : ℕ) → v < processor_count l.fn.geometry → number_at l.fn.state v ≡ g.C.Combine.shows L (own v))
      → (v : ℕ) → v < processor_count l.fn.geometry → number_at l.state v ≡ g.C.Combine.shows L (segment_run (λ u. get_or l.fn.begun u false) own l.direction (stride l.fn.geometry l.axis) l.places v);
}

abbrev pub decreases-loop-places : goal.decreases-loop-places
decreases-loop-places g l = l.length - l.places
