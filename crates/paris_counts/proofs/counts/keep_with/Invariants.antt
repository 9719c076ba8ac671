use Rattle.std.proofs.Common.{ℕ, ◌≡◌, ◌+◌, ◌*◌, ◌≤◌, ◌<◌, ◌&&◌, length}
use Rattle.paris_field.specs.Numbers.{has}
use Rattle.paris_counts.proofs.counts.keep_with.Given as goal

abbrev pub invariant-loop-i : goal.invariant-loop-i
invariant-loop-i l = record {
  long : length l.candidates ≡ length l.initial.candidates;
  kept : (v : ℕ) → l.start ≤ v → v < l.start + 64 * l.i → has l.candidates v ≡ (has l.initial.candidates v && has l.x v);
  behind : (v : ℕ) → l.start + 64 * l.i ≤ v → v < length l.initial.candidates → has l.candidates v ≡ has l.initial.candidates v;
}
