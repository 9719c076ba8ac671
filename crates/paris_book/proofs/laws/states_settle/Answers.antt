use Rattle.paris_book.proofs.Lawful.{state_settles}
use Rattle.paris_book.proofs.laws.states_settle.Goals as goal

pub returns : goal.returns
returns c = state_settles
