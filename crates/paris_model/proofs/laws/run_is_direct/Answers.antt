use Rattle.paris_model.proofs.DirectRuns.{run_direct}
use Rattle.paris_model.proofs.laws.run_is_direct.Goals as goal

pub returns : goal.returns
returns c = run_direct
