use Rattle.std.proofs.Common.{sym, ap, ◌∙◌, subst}
use Rattle.paris_book.specs.Rounds.{Advances}
use Rattle.paris_book.specs.Steps.{settled_on}
use Rattle.paris_book.proofs.Advancing.{task_advances}
use Rattle.paris_book.proofs.Turns.{task_there}
use Rattle.paris_book.proofs.loose.Loose.keep_unsettled.Goals as goal

pub returns : goal.returns
returns c =
    let s = c.args.self.now in
    let r = task_there s c.args.place c.args.done c.requires.own in
    subst (Advances 1 s) (sym c.keep_own.ensures)
    (task_advances s c.args.place c.args.done r.0 c.requires r.1 (sym (ap settled_on r.1) ∙ sym c.is_settled_at.ensures ∙ c.if-is_settled_at.false))

pub keep_own-requires-clause-unsettled : goal.keep_own-requires-clause-unsettled
keep_own-requires-clause-unsettled c = sym c.is_settled_at.ensures ∙ c.if-is_settled_at.false
