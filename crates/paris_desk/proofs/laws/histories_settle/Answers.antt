use Rattle.paris_desk.proofs.Books.{history_book}
use Rattle.paris_records.specs.History.{state_of}
use Rattle.paris_desk.proofs.laws.histories_settle.Goals as goal

pub returns : goal.returns
returns c = λ p h. c.states_settle.ensures (state_of p h) (history_book p h)
