use Rattle.std.proofs.Common.{ap, ◌∙◌}
use Rattle.paris_session.specs.Hands.{Hand, told}
use Rattle.paris_parts.proofs.Playing.{by_call}
use Rattle.paris_parts.proofs.players.answer_call.Goals as goal

pub returns-in_ok-tell-in-Ok-clause-answered : goal.returns-in_ok-tell-in-Ok-clause-answered
returns-in_ok-tell-in-Ok-clause-answered g c =
    by_call g.L.Office.profile c.args.seat.now c.call.new.seat c.args.hand.now.hand c.tell.new.self.hand c.args.event c.in-Ok.reply c.in_ok-tell-in-Ok.field-0.items c.requires.time c.in-Ok.ensures.recorded
    (c.in_ok-tell-in-Ok.ensures.ok ∙ ap (λ (h : Hand). told h c.in-Ok.reply) c.ready.ensures.same)
