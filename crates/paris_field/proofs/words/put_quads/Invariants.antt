use Rattle.std.proofs.Common.{◌≡◌, ℕ, ◌*◌, ◌<◌, get_or, length}
use Rattle.paris_model.specs.Store.{low}
use Rattle.paris_field.specs.Numbers.{AllOf, number_at}
use Rattle.paris_field.proofs.words.put_quads.Given as goal

abbrev pub invariant-loop-quad : goal.invariant-loop-quad
invariant-loop-quad l = record {
  long : AllOf (length l.words) l.planes;
  put : (v : ℕ) → v < 256 * l.quad → number_at l.planes v ≡ low (length l.fn.planes) (get_or l.words v 0);
}
