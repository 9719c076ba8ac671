use Rattle.std.proofs.Common.{◌≡◌, ℕ, ◌+◌, ◌*◌, ◌<◌, [], get_or, length}
use Rattle.paris_field.specs.Square.{FourLanes}
use Rattle.paris_field.proofs.quads.side_by_side_lanes.Given as goal

abbrev pub invariant-loop-j : goal.invariant-loop-j
invariant-loop-j l = record {
  long : length l.rows ≡ 64;
  four : FourLanes 64 l.rows;
  done : (k : ℕ) → k < l.j → (q : ℕ) → q < 4 → get_or (get_or l.rows k []) q 0 ≡ get_or l.words (64 * q + k) 0;
}
