use Rattle.std.proofs.Common.{◌≡◌, ◌+◌, ◌-◌, ◌≤◌, length}
use Rattle.paris_text.specs.Kinds.Kind.{ValueWord}
use Rattle.paris_text.specs.Reading.{place, left}
use Rattle.paris_text.specs.CommandReading.{many_at}
use Rattle.paris_text.proofs.ManyLemmas.{behind}
use Rattle.paris_text.proofs.reader.next_values.Given as goal

abbrev pub invariant-loop-values : goal.invariant-loop-values
invariant-loop-values l = record {
  within : l.next ≤ length l.line + 1;
  room : l.values.len + length (left l.line l.next) ≤ l.values.cap;
  same : many_at ValueWord (place l.line l.fn.at) ≡ behind l.values.items (many_at ValueWord (place l.line l.next));
}

abbrev pub decreases-loop-values : goal.decreases-loop-values
decreases-loop-values l = length l.line + 1 - l.next
