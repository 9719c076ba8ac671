use Rattle.std.proofs.Common.{◌≡◌, ℕ, ◌<◌, length, get_or}
use Rattle.paris_plane.proofs.few.few_words.Given as goal

abbrev pub invariant-loop-i : goal.invariant-loop-i
invariant-loop-i g l = record {
  long : length l.made ≡ 2;
  done : (j : ℕ) → j < l.i → get_or l.made j 0 ≡ g.O.WordOp.op (get_or l.xs j 0) (get_or l.ys j 0);
}
