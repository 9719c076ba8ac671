use Rattle.paris_book.proofs.Lawful.{state_direct}
use Rattle.paris_book.proofs.laws.states_are_direct.Goals as goal

pub returns : goal.returns
returns c = state_direct c.run_is_direct.ensures
