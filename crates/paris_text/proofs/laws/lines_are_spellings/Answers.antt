use Rattle.paris_text.proofs.LawLemmas.{lines_are_spellings}
use Rattle.paris_text.proofs.laws.lines_are_spellings.Goals as goal

pub returns : goal.returns
returns c = lines_are_spellings
