use Rattle.std.specs.Arc.{arc_value}
use Rattle.std.proofs.Common.{rules}
use Rattle.paris_records.specs.History.{entry}
use Rattle.paris_ledger.proofs.Entries.{adds}
use Rattle.paris_ledger.proofs.ledger.Ledger.call.Goals as goal

pub invariant_of-self-2 : goal.invariant_of-self-2
invariant_of-self-2 c =
    let e = entry c.args.seat c.args.event c.in-Ok.made.given in
    adds c.self.inside.first (arc_value c.in-Ok.made.book) c.self.inside.history.items c.push_reserved.new.self.items e (search rules) c.self.invariant.0 (search rules) (search rules)
