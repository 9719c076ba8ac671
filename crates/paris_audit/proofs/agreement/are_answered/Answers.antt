use Rattle.paris_audit.proofs.Agreements.{legal_stops, legal_goes, not_true}
use Rattle.paris_audit.proofs.agreement.are_answered.Goals as goal

pub returns-then-not-branch : goal.returns-then-not-branch
returns-then-not-branch c =
    let no = legal_stops c.loop-entry.entry-index c.args.entries.now c.entry-item.result c.args.book.now c.loop-entry.book c.loop-entry-test.true c.entry-item.is c.loop-entry.invariant (λ same. absurd (cc (c.if-not-branch.true, c.in_ok-is_answered.ensures.reply.1 same))) in
    ((λ f. absurd (not_true f)), (λ legal. absurd (no legal)))

pub loop-entry-preserved : goal.loop-entry-preserved
loop-entry-preserved c =
    legal_goes c.loop-entry.entry-index c.args.entries.now c.entry-item.result c.args.book.now c.loop-entry.book c.is_answered.new.book c.loop-entry-test.true c.entry-item.is c.loop-entry.invariant (c.in_ok-is_answered.ensures.reply.0 c.if-not-branch.false) c.in_ok-is_answered.ensures.state
