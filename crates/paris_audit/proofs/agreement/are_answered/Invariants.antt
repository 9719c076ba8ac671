use Rattle.std.proofs.Common.{drop}
use Rattle.std.specs.Prelude.{◌↔◌}
use Rattle.paris_records.specs.History.{LegalFrom}
use Rattle.paris_audit.proofs.agreement.are_answered.Given as goal

abbrev pub invariant-loop-entry : goal.invariant-loop-entry
invariant-loop-entry l = LegalFrom l.fn.book l.entries ↔ LegalFrom l.book (drop l.entry-index l.entries)
