use Rattle.std.proofs.Common.{drop}
use Rattle.std.specs.Prelude.{◌↔◌}
use Rattle.paris_records.specs.Agreement.{InPlaces}
use Rattle.paris_audit.proofs.agreement.are_in_places.Given as goal

abbrev pub invariant-loop-receipt : goal.invariant-loop-receipt
invariant-loop-receipt l = InPlaces l.entries l.seat 0 l.receipts ↔ InPlaces l.entries l.seat l.above (drop l.receipt-index l.receipts)
