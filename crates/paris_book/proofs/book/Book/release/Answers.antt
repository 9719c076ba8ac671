use Rattle.std.proofs.Common.{sym, subst}
use Rattle.paris_events.specs.CutOff.{IsAtRest}
use Rattle.paris_events.proofs.Rests.{release_stays}
use Rattle.paris_book.proofs.book.Book.release.Goals as goal

pub invariant_of-self : goal.invariant_of-self
invariant_of-self c = subst IsAtRest (sym c.release.ensures) (release_stays c.self.inside.loose c.self.invariant)
