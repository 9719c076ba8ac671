-- The numbers so far are turned.
use Rattle.std.proofs.Common.{ℕ, ◌≡◌, ◌<◌, ◌^◌, length}
use Rattle.std.specs.Prelude.{slice_index}
use Rattle.paris_scan.specs.Shown.{complement}
use Rattle.paris_scan.proofs.adjacent.all_turned.Given as goal

abbrev pub invariant-loop-i : goal.invariant-loop-i
invariant-loop-i l = record {
  count : length l.all.items ≡ l.i;
  values : (j : ℕ) → j < l.i → slice_index l.all.items j ≡ complement l.bits (slice_index l.numbers j);
  fit : (j : ℕ) → j < l.i → slice_index l.all.items j < 2 ^ l.bits;
}
