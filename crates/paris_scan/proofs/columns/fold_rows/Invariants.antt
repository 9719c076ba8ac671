use Rattle.std.proofs.Common.{◌≡◌, ℕ, ◌+◌, ◌*◌, ◌%◌, ◌^◌, ◌<◌, ◌≤◌, List, length}
use Rattle.std.specs.Prelude.{All}
use Rattle.std.specs.Int.{IsPowerOfTwo}
use Rattle.paris_field.specs.Numbers.{AllOf, number_at}
use Rattle.paris_scan.proofs.Rows.{Folded}
use Rattle.paris_scan.proofs.columns.fold_rows.Given as goal

abbrev pub invariant-loop-places : goal.invariant-loop-places
invariant-loop-places g l = record {
  power : IsPowerOfTwo l.places;
  some : 0 < l.places;
  whole : l.count % l.places ≡ 0;
  planes : length l.state.items ≡ length l.fn.state.items;
  period : l.places * (64 * l.words) ≤ 65536;
  small : l.periods * (l.places * (64 * l.words)) ≤ 65536;
  long : AllOf (l.periods * (l.places * (64 * l.words))) l.state.items;
  lines : (L : ℕ) (own : ℕ → List ℕ) → length l.fn.state.items ≡ L + g.C.Combine.extra → ((u : ℕ) → All (λ x. x < 2 ^ L) (own u)) → ((v : ℕ) → v < l.periods * (l.count * (64 * l.words)) → number_at l.fn.state.items v ≡ g.C.Combine.shows L (own v))
      → Folded (g.C.Combine.shows L) own (number_at l.state.items) (64 * l.words) l.count l.periods l.places;
}

abbrev pub decreases-loop-places : goal.decreases-loop-places
decreases-loop-places g l = l.places
