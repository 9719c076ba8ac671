use Rattle.paris_audit.proofs.agreement.audit_with.Goals as goal

pub returns-then-legal : goal.returns-then-legal
returns-then-legal c = (λ t. (c.in_ok-legal.ensures.0 c.if-legal.true, c.are_all_accounted.ensures.0 t), λ a. c.are_all_accounted.ensures.1 a.1)

pub returns-else-legal : goal.returns-else-legal
returns-else-legal c = (λ t. absurd (cc (t, c.if-legal.false)), λ a. c.in_ok-legal.ensures.1 a.0)
