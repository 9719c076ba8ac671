use Rattle.std.proofs.Common.{◌≡◌, ◌<◌, ◌≤◌, ◌+◌, ◌*◌, ℕ, length}
use Rattle.paris_field.specs.Numbers.{has}
use Rattle.paris_scan.proofs.repeated.put_span.Given as goal

abbrev pub invariant-loop-i : goal.invariant-loop-i
invariant-loop-i l = record {
  long : length l.plane ≡ length l.initial.plane;
  put : (v : ℕ) → l.start ≤ v → v < l.start + 64 * l.i → has l.plane v ≡ l.bit;
  others : (v : ℕ) → v < length l.initial.plane → (v < l.start → has l.plane v ≡ has l.initial.plane v) × (l.start + 64 * l.i ≤ v → has l.plane v ≡ has l.initial.plane v);
}
