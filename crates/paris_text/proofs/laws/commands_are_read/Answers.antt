use Rattle.paris_text.proofs.CommandLemmas.{commands_are_read, columns_of_commands}
use Rattle.paris_text.proofs.laws.commands_are_read.Goals as goal

pub returns-clause-command : goal.returns-clause-command
returns-clause-command c = commands_are_read

pub returns-clause-column : goal.returns-clause-column
returns-clause-column c = columns_of_commands
