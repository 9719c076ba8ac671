use Rattle.paris_desk.proofs.Books.{history_book}
use Rattle.paris_records.specs.History.{state_of}
use Rattle.paris_desk.proofs.laws.histories_are_direct.Goals as goal

pub returns : goal.returns
returns c = record { book = history_book; direct = λ p h. c.states_are_direct.ensures (state_of p h) (history_book p h) }
