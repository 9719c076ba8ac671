use Rattle.paris_text.proofs.CommandLemmas.{command_spellings_differ}
use Rattle.paris_text.proofs.laws.command_spellings_differ.Goals as goal

pub returns : goal.returns
returns c = command_spellings_differ
