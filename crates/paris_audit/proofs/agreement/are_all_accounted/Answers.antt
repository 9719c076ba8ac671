use Rattle.std.proofs.Common.{◌∙◌, sym}
use Rattle.paris_audit.proofs.Agreements.{each_listed, are_listed}
use Rattle.paris_audit.proofs.agreement.are_all_accounted.Goals as goal

pub returns-then-are_below : goal.returns-then-are_below
returns-then-are_below c = each_listed c.args.entries.now c.args.receipts.now c.are_accounted.result (sym c.are_below.ensures ∙ c.if-are_below.true) c.are_accounted.ensures

pub returns-else-are_below : goal.returns-else-are_below
returns-else-are_below c = (λ t. absurd (cc), λ all. c.are_below.ensures ∙ are_listed c.args.entries.now c.args.receipts.now all)
