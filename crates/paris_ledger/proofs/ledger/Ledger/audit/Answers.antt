use Rattle.std.proofs.Common.{rules}
use Rattle.paris_ledger.proofs.Entries.{said_yes}
use Rattle.paris_ledger.proofs.ledger.Ledger.audit.Goals as goal

pub returns : goal.returns
returns c = said_yes _ _ c.is_legal_from.result c.is_legal_from.ensures (search rules)
