use Rattle.std.proofs.Common.{◌≡◌, ℕ, ◌*◌, ◌<◌, get_or, length}
use Rattle.paris_model.specs.Store.{low}
use Rattle.paris_field.specs.Numbers.{AllOf, number_at}
use Rattle.paris_field.proofs.blocks.put_all.Given as goal

abbrev pub invariant-loop-block : goal.invariant-loop-block
invariant-loop-block l = record {
  long : AllOf (length l.list) l.planes;
  numbers : (v : ℕ) → v < length l.list → v < 64 * l.block → number_at l.planes v ≡ low (length l.fn.planes) (get_or l.list v 0);
}
