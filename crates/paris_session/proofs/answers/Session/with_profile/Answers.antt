use Rattle.std.proofs.Common.{ap, ◌∙◌, []}
use Rattle.paris_session.specs.Transcript.{start, with_book}
use Rattle.paris_events.specs.State.{State}
use Rattle.paris_session.proofs.answers.Session.with_profile.Goals as goal

pub returns : goal.returns
returns c = c.of_book.ensures ∙ ap (λ (book : State). with_book start book []) c.with_profile.ensures
