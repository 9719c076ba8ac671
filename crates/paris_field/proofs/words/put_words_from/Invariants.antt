use Rattle.std.proofs.Common.{◌≡◌, ℕ, ◌+◌, ◌*◌, ◌<◌, ◌≤◌, get_or, length}
use Rattle.paris_model.specs.Store.{low}
use Rattle.paris_field.specs.Numbers.{AllOf, number_at}
use Rattle.paris_field.proofs.words.put_words_from.Given as goal

abbrev pub invariant-loop-block : goal.invariant-loop-block
invariant-loop-block l = record {
  long : AllOf l.vps l.planes;
  put : (i : ℕ) → i < length l.words → l.from + i < 64 * l.block → number_at l.planes (l.from + i) ≡ low (length l.fn.planes) (get_or l.words i 0);
  others : (v : ℕ) → v < l.vps → (l.from ≤ v → l.from + length l.words ≤ v) → number_at l.planes v ≡ number_at l.fn.planes v;
}
