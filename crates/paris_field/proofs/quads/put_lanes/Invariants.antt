use Rattle.std.proofs.Common.{◌≡◌, ℕ, ◌+◌, ◌*◌, ◌<◌, [], get_or, length}
use Rattle.paris_field.proofs.quads.put_lanes.Given as goal

abbrev pub invariant-loop-j : goal.invariant-loop-j
invariant-loop-j l = record {
  long : length l.words ≡ 256;
  done : (q k : ℕ) → q < 4 → k < l.j → get_or l.words (64 * q + k) 0 ≡ get_or (get_or l.rows k []) q 0;
}
