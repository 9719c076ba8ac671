-- The candidates are those whose bits of the higher planes are the greatest.
use Rattle.std.proofs.Common.{◌≡◌, ℕ, ◌+◌, ◌-◌, ◌^◌, ◌<◌, ◌≤◌, length, drop}
use Rattle.paris_field.specs.Numbers.{has, number_at}
use Rattle.paris_counts.proofs.Tops.{Candidates, top}
use Rattle.paris_counts.proofs.totals.maximum_of.Given as goal

abbrev pub invariant-loop-k : goal.invariant-loop-k
invariant-loop-k l = record {
  value : l.total ≡ top (has l.initial.candidates) (number_at (drop l.k l.planes)) l.start l.count;
  small : l.total < 2 ^ (length l.planes - l.k);
  long : length l.candidates ≡ length l.initial.candidates;
  left : Candidates (has l.candidates) (has l.initial.candidates) (number_at (drop l.k l.planes)) l.total l.start l.count;
  behind : (v : ℕ) → l.start + l.count ≤ v → v < length l.initial.candidates → has l.candidates v ≡ has l.initial.candidates v;
}
