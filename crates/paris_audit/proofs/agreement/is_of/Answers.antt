use Rattle.std.proofs.Common.{◌≡◌, sym, ◌∙◌}
use Rattle.std.proofs.lemmas.Bool.{eqb-true}
use Rattle.paris_audit.proofs.Agreements.{of_entry}
use Rattle.paris_audit.proofs.agreement.is_of.Goals as goal
use Rattle.paris_audit.proofs.agreement.is_of.Goals.{then-kept-seat, else-kept-seat}

pub returns-then-is_same_event : goal.returns-then-is_same_event
returns-then-is_same_event c =
    let kept = c.args.kept.now in
    let told : (kept.seat ≡ c.args.seat) × (kept.event ≡ c.args.receipt.now.event) =
    elim c.if-kept-seat.branch [
      | then-kept-seat w ↦ (w.if-kept-seat.true, w.is_same_event.ensures.0 (sym w.value-is ∙ c.if-is_same_event.true))
      | else-kept-seat w ↦ absurd (w.if-kept-seat.false (eqb-true _ _ (sym w.value-is ∙ c.if-is_same_event.true)))
    ] in
    of_entry kept c.args.seat c.args.receipt.now c.is_same_reply.result told.0 told.1 c.is_same_reply.ensures
