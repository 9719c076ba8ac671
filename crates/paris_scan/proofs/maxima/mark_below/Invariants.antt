use Rattle.std.proofs.Common.{◌≡◌, ℕ, ◌<◌, length, take, get_or, false, ltb}
use Rattle.paris_field.specs.Numbers.{number_at}
use Rattle.paris_scan.proofs.maxima.mark_below.Given as goal

abbrev pub invariant-loop-k : goal.invariant-loop-k
invariant-loop-k l = record {
  long : length l.below ≡ length l.fn.below;
  at : (v : ℕ) → v < length l.fn.below → get_or l.below v false ≡ ltb (number_at (take l.k l.x) v) (number_at (take l.k l.y) v);
}
