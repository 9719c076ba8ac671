use Rattle.paris_text.proofs.LawLemmas.{spellings_differ}
use Rattle.paris_text.proofs.laws.spellings_differ.Goals as goal

pub returns : goal.returns
returns c = spellings_differ
