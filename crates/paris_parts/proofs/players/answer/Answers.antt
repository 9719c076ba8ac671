use Rattle.std.proofs.Common.{sym, ◌∙◌}
use Rattle.paris_parts.proofs.Playing.{line_if, line_skipped}
use Rattle.paris_parts.proofs.players.answer.Goals as goal

pub returns-in-None-clause-answered : goal.returns-in-None-clause-answered
returns-in-None-clause-answered g c =
    line_skipped g.L.Office.profile c.args.seat c.args.hand.now.hand c.args.line.now c.new.result.items c.requires.time (sym c.in-None.is ∙ c.in_ok-asked.ensures.ok) c.new.ensures.items

pub returns-in-Some-clause-answered : goal.returns-in-Some-clause-answered
returns-in-Some-clause-answered g c =
    line_if g.L.Office.profile c.answer_asked.result (λ x. x.0) (λ x. x.1.items) c.args.seat c.args.hand.now.hand c.answer_asked.new.hand.hand c.args.line.now c.in-Some.asked
    (sym c.in-Some.is ∙ c.in_ok-asked.ensures.ok) c.answer_asked.ensures.answered
