use Rattle.std.proofs.Common.{◌≡◌, ◌+◌, ◌≤◌, drop}
use Rattle.paris_parts.specs.Texts.{edits_in}
use Rattle.paris_parts.proofs.texts.edits_in.Given as goal

abbrev pub invariant-loop-entry : goal.invariant-loop-entry
invariant-loop-entry l = (l.count + edits_in (drop l.entry-index l.history) ≡ edits_in l.history) × (l.count ≤ l.entry-index)
