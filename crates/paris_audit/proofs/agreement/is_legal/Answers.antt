use Rattle.std.proofs.Common.{◌↔◌, IfOk, IsTrue, subst}
use Rattle.paris_records.specs.History.{LegalFrom}
use Rattle.paris_audit.proofs.agreement.is_legal.Goals as goal

pub returns : goal.returns
returns c =
    subst (λ book. IfOk c.are_answered.result (λ answer. IsTrue answer ↔ LegalFrom book c.args.entries.now)) c.with_profile-book.ensures
    c.are_answered.ensures
