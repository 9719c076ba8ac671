use Rattle.std.proofs.Common.{◌↔◌, IfOk, IsTrue, subst}
use Rattle.paris_records.specs.History.{LegalFrom}
use Rattle.paris_ledger.proofs.ledger.is_legal_from.Goals as goal

pub returns : goal.returns
returns c =
    subst (λ book. IfOk c.are_answered.result (λ answer. IsTrue answer ↔ LegalFrom book c.args.history.now)) c.in_ok-book.ensures
    c.are_answered.ensures
