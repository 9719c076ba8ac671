use Rattle.paris_book.proofs.Lawful.{settled_goes_on, state_goes_on}
use Rattle.paris_book.proofs.laws.states_go_on.Goals as goal

pub returns : goal.returns
returns c = record { events = state_goes_on; settling = settled_goes_on }
