use Rattle.std.proofs.Common.{◌≡◌, ℕ, ◌-◌, ◌%◌, ◌<◌, ◌&&◌, false, length, get_or, leb, ltb}
use Rattle.paris_news.proofs.coordinates.periodic_plane.Given as goal

abbrev pub invariant-loop-step : goal.invariant-loop-step
invariant-loop-step l = record {
  plane_long : length l.plane ≡ l.len;
  moved_long : length l.moved ≡ l.len;
  whole : l.step % l.period ≡ 0;
  some : 0 < l.step;
  bits : (v : ℕ) → v < l.len → get_or l.plane v false ≡ (ltb v l.step && (leb l.from (v % l.period) && ltb (v % l.period) l.until));
}

abbrev pub decreases-loop-step : goal.decreases-loop-step
decreases-loop-step l = l.len - l.step
