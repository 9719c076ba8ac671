use Rattle.std.proofs.Common.{◌≡◌, Result, Ok, Err, ap, ◌∙◌}
use Rattle.std.specs.Prelude.{IfOk}
use Rattle.paris_events.specs.declared.events.Reply.{Reply}
use Rattle.paris_events.specs.declared.events.Reply.TheVariants as ReplyCase
use Rattle.paris_desk.specs.declared.making.Replies.{Replies}
use Rattle.paris_desk.proofs.making.make_list.Goals as goal

given_as : {E : Type 0} (o : Result Replies E) (r r' : Reply) → r ≡ r' → IfOk o (λ x. x.given ≡ r) → IfOk o (λ x. x.given ≡ r')
given_as (Ok x) r r' is h = h ∙ is
given_as (Err e) r r' is h = tt

pub returns-clause-given : goal.returns-clause-given
returns-clause-given c = given_as _ _ _ (ap (λ looks. ReplyCase.List looks) c.in_ok-looks.ensures) c.thrice.ensures.given
