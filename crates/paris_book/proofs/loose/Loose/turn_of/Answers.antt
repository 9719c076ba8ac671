use Rattle.std.proofs.Common.{sym, subst}
use Rattle.paris_book.specs.Rounds.{Advances}
use Rattle.paris_book.proofs.Advancing.{turn_advances}
use Rattle.paris_book.proofs.loose.Loose.turn_of.Goals as goal

pub returns-in-Ok : goal.returns-in-Ok
returns-in-Ok g c =
    subst (λ n. Advances n c.args.self.now c.turn_at.new.self) (sym c.in-Ok.ensures.ran)
    (subst (Advances _ c.args.self.now) (sym c.in-Ok.ensures.state) (turn_advances c.args.self.now c.args.place))
