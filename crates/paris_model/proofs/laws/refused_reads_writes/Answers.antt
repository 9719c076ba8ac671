use Rattle.paris_model.proofs.Worlds.{refused_reads}
use Rattle.paris_model.proofs.laws.refused_reads_writes.Goals as goal

pub returns : goal.returns
returns c = refused_reads
