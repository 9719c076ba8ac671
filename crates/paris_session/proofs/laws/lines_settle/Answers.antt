use Rattle.paris_session.specs.Transcript.{after_lines, start}
use Rattle.paris_session.proofs.States.{lines_go_on}
use Rattle.paris_session.proofs.laws.lines_settle.Goals as goal

pub returns : goal.returns
returns c = λ ls. c.states_settle.ensures (after_lines start ls).state (lines_go_on ls)
