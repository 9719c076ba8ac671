use Rattle.std.proofs.Common.{◌≡◌, ◌+◌, ◌-◌, ◌≤◌, length}
use Rattle.paris_text.specs.Reading.{place}
use Rattle.paris_text.specs.Room.{values_room}
use Rattle.paris_text.proofs.RoomLemmas.{plus}
use Rattle.paris_text.proofs.reader.count_values.Given as goal

abbrev pub invariant-loop-after : goal.invariant-loop-after
invariant-loop-after l = record {
  within : l.next ≤ length l.line + 1;
  small : l.count ≤ l.next;
  same : values_room (place l.line l.fn.at) ≡ plus l.count (values_room (place l.line l.next));
}

abbrev pub decreases-loop-after : goal.decreases-loop-after
decreases-loop-after l = length l.line + 1 - l.next
