use Rattle.std.proofs.Common.{refl}
use Rattle.paris_audit.proofs.Agreements.{places_stop, places_go, not_true}
use Rattle.paris_audit.proofs.agreement.are_in_places.Goals as goal

pub returns-then-not-is_in_place : goal.returns-then-not-is_in_place
returns-then-not-is_in_place c =
    let no = places_stop c.args.entries.now c.args.seat c.loop-receipt.above c.loop-receipt.receipt-index c.args.receipts.now c.receipt-item.result c.loop-receipt-test.true c.receipt-item.is c.loop-receipt.invariant (λ h. not_true (c.if-not-is_in_place.ensures.1 h)) in
    ((λ f. absurd (not_true f)), (λ all. absurd (no all)))

pub loop-receipt-preserved : goal.loop-receipt-preserved
loop-receipt-preserved c =
    places_go c.args.entries.now c.args.seat c.loop-receipt.above c.loop-receipt.receipt-index c.args.receipts.now c.receipt-item.result c.loop-receipt-test.true c.receipt-item.is c.loop-receipt.invariant (c.if-not-is_in_place.ensures.0 refl)
