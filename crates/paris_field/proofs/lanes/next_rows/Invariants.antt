use Rattle.std.proofs.Common.{◌≡◌, ℕ, ◌+◌, ◌<◌, [], get_or, length}
use Rattle.paris_field.proofs.lanes.next_rows.Given as goal

abbrev pub invariant-loop-j : goal.invariant-loop-j
invariant-loop-j l = record {
  long : length l.eight ≡ 8;
  done : (k : ℕ) → k < l.j → get_or l.eight k [] ≡ get_or l.rows (l.start + k) [];
}
