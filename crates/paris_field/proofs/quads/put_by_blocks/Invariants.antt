use Rattle.std.proofs.Common.{◌≡◌, ◌≢◌, ℕ, ◌+◌, ◌*◌, ◌/◌, ◌<◌, get_or, length}
use Rattle.paris_model.specs.Store.{low}
use Rattle.paris_field.specs.Numbers.{AllOf, number_at}
use Rattle.paris_field.proofs.quads.put_by_blocks.Given as goal

abbrev pub invariant-loop-q : goal.invariant-loop-q
invariant-loop-q l = record {
  long : AllOf l.vps l.planes;
  numbers : (i : ℕ) → i < 64 * l.q → 256 * l.quad + i < l.vps → number_at l.planes (256 * l.quad + i) ≡ low (length l.fn.planes) (get_or l.words i 0);
  others : (v : ℕ) → v < l.vps → v / 256 ≢ l.quad → number_at l.planes v ≡ number_at l.fn.planes v;
}
