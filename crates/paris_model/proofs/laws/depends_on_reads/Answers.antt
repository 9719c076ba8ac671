use Rattle.paris_model.proofs.Direct.{refusal_depends, after_depends}
use Rattle.paris_model.proofs.laws.depends_on_reads.Goals as goal

pub returns : goal.returns
returns c = record { refusal = refusal_depends; after = after_depends }
