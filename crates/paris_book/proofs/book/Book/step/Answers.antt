use Rattle.std.proofs.Common.{ap, refl, sym, ◌∙◌}
use Rattle.paris_events.specs.Events.{reply_to}
use Rattle.paris_events.specs.declared.events.Reply.TheVariants.{Bring}
use Rattle.paris_book.proofs.book.Book.step.Goals as goal

pub returns-in-Bring-clause-reply : goal.returns-in-Bring-clause-reply
returns-in-Bring-clause-reply c = ap Bring c.bring.ensures.answer ∙ ap (reply_to c.args.self.now) (sym c.in-Bring.is)

pub returns-in-Err-step_show-clause-err : goal.returns-in-Err-step_show-clause-err
returns-in-Err-step_show-clause-err c = (sym c.in-Show.is, refl)
