use Rattle.paris_desk.proofs.office.Opening.new.Goals as goal

pub returns : goal.returns
returns c = c.new.ensures
