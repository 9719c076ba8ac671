-- The room begins with what the stretches so far come to.
use Rattle.std.proofs.Common.{◌≡◌, length, map, take}
use Rattle.paris_c.specs.StretchCalls.{summaries, summary_number}
use Rattle.paris_c.proofs.stretches.put_summaries.Given as goal

abbrev pub invariant-loop-i : goal.invariant-loop-i
invariant-loop-i l = (length l.room ≡ l.parts) × (map summary_number (take l.i l.room) ≡ take l.i (summaries l.parts l.value.numbers))
