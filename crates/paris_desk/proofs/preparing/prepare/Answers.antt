use Rattle.std.proofs.Common.{ap, ◌∙◌}
use Rattle.paris_events.specs.Events.{reply_to}
use Rattle.paris_desk.proofs.preparing.prepare.Goals as goal

pub returns-clause-given : goal.returns-clause-given
returns-clause-given c = c.in-Ok-make.ensures.given ∙ ap (λ s. reply_to s c.args.event) c.in-Ok-snapshot.ensures
