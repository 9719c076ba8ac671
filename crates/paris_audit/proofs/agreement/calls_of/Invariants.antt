use Rattle.std.proofs.Common.{◌≡◌, ◌+◌, drop, ◌≤◌}
use Rattle.paris_records.specs.Agreement.{calls_of}
use Rattle.paris_audit.proofs.agreement.calls_of.Given as goal

abbrev pub invariant-loop-entry : goal.invariant-loop-entry
invariant-loop-entry l = (l.count + calls_of l.seat (drop l.entry-index l.entries) ≡ calls_of l.seat l.entries) × (l.count ≤ l.entry-index)
