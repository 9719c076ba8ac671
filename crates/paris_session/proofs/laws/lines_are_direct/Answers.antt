use Rattle.paris_session.specs.Transcript.{after_lines, start}
use Rattle.paris_session.proofs.States.{lines_go_on}
use Rattle.paris_session.proofs.laws.lines_are_direct.Goals as goal

pub returns : goal.returns
returns c = record { book = lines_go_on; direct = λ ls. c.states_are_direct.ensures (after_lines start ls).state (lines_go_on ls) }
