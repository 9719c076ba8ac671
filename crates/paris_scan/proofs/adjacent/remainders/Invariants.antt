-- The numbers so far.
use Rattle.std.proofs.Common.{ℕ, ◌≡◌, ◌<◌, ◌%◌, length}
use Rattle.std.specs.Prelude.{slice_index}
use Rattle.paris_scan.proofs.adjacent.remainders.Given as goal

abbrev pub invariant-loop-i : goal.invariant-loop-i
invariant-loop-i l = record {
  count : length l.rests.items ≡ l.i;
  values : (j : ℕ) → j < l.i → slice_index l.rests.items j ≡ slice_index l.numbers j % l.limit;
  fit : (j : ℕ) → j < l.i → slice_index l.rests.items j < l.limit;
}
