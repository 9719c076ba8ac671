use Rattle.paris_session.specs.Transcript.{after_lines}
use Rattle.paris_parts.specs.Run.{last_session}
use Rattle.paris_parts.proofs.LastBooks.{last_book}
use Rattle.paris_parts.proofs.laws.last_parts_settle.Goals as goal

pub returns : goal.returns
returns c = λ p h ls. c.states_settle.ensures (after_lines (last_session p h) ls).state (last_book p h ls)
