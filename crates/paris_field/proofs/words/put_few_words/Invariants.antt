use Rattle.std.proofs.Common.{◌≡◌, ℕ, ◌+◌, ◌<◌, ◌≤◌, get_or, length}
use Rattle.paris_model.specs.Store.{low}
use Rattle.paris_field.specs.Numbers.{AllOf, number_at}
use Rattle.paris_field.proofs.words.put_few_words.Given as goal

abbrev pub invariant-loop-i : goal.invariant-loop-i
invariant-loop-i l = record {
  long : AllOf l.vps l.planes;
  put : (j : ℕ) → j < l.i → number_at l.planes (l.from + j) ≡ low (length l.fn.planes) (get_or l.words j 0);
  before : (u : ℕ) → u < l.from → number_at l.planes u ≡ number_at l.fn.planes u;
  after : (u : ℕ) → l.from + l.i ≤ u → number_at l.planes u ≡ number_at l.fn.planes u;
}
