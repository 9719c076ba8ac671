use Rattle.std.proofs.Common.{sym, subst}
use Rattle.paris_events.specs.CutOff.{IsAtRest}
use Rattle.paris_events.proofs.Rests.{bring_stays}
use Rattle.paris_book.proofs.book.Book.bring.Goals as goal

pub invariant_of-self : goal.invariant_of-self
invariant_of-self c = subst IsAtRest (sym c.bring.ensures.state) (bring_stays c.self.inside.loose c.args.done c.self.invariant)
