use Rattle.paris_desk.proofs.closing.hindrance.Goals as goal

pub returns-in-Some : goal.returns-in-Some
returns-in-Some g c = record { cause = c.in-Some.ensures; room = tt }
