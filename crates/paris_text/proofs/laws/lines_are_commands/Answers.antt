use Rattle.paris_text.proofs.CommandLemmas.{lines_are_commands}
use Rattle.paris_text.proofs.laws.lines_are_commands.Goals as goal

pub returns : goal.returns
returns c = lines_are_commands
