-- The lines so far have their bits.
use Rattle.std.proofs.Common.{◌≡◌, ◌<◌, ◌*◌, ◌/◌, ℕ, length}
use Rattle.paris_field.specs.Numbers.{has}
use Rattle.paris_scan.proofs.repeated.line_plane.Given as goal

abbrev pub invariant-loop-line : goal.invariant-loop-line
invariant-loop-line l = record {
  long : length l.plane ≡ l.vps;
  done : (v : ℕ) → v < l.line * l.count → has l.plane v ≡ has l.bits (v / l.count);
}
