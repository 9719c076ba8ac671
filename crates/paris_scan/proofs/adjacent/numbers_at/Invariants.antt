-- The numbers so far.
use Rattle.std.proofs.Common.{ℕ, ◌≡◌, ◌<◌, ◌+◌, ◌*◌, ◌^◌, length}
use Rattle.std.specs.Prelude.{slice_index}
use Rattle.paris_field.specs.Fields.{operand}
use Rattle.paris_scan.proofs.adjacent.numbers_at.Given as goal

abbrev pub invariant-loop-line : goal.invariant-loop-line
invariant-loop-line l = record {
  lines : length l.numbers.items ≡ l.line;
  values : (i : ℕ) → i < length l.numbers.items → slice_index l.numbers.items i ≡ operand l.bits l.x (i * l.count + l.place);
  fit : (i : ℕ) → i < length l.numbers.items → slice_index l.numbers.items i < 2 ^ l.bits;
}
