use Rattle.std.proofs.Common.{refl, sym, subst}
use Rattle.paris_desk.specs.Seats.{SeatState}
use Rattle.paris_session.specs.declared.asked.Asked.{Asked}
use Rattle.paris_session.specs.declared.asked.Asked.TheVariants as asks
use Rattle.paris_parts.specs.Moving.{Answered}
use Rattle.paris_parts.proofs.Playing.{by_none}
use Rattle.paris_parts.proofs.players.answer_asked.Goals as goal

pub returns-in_ok-refuse-in-Refused-clause-answered : goal.returns-in_ok-refuse-in-Refused-clause-answered
returns-in_ok-refuse-in-Refused-clause-answered g c =
    let h = c.args.hand.now.hand in
    let text = c.in_ok-refuse-in-Refused.field-0.items in
    let own = by_none g.L.Office.profile c.args.seat h c.refuse.new.self.hand (asks.Refused c.in-Refused.fault) text c.requires.time (refl, c.in_ok-refuse-in-Refused.ensures.ok) in
    let asked = subst (λ (a : Asked). Answered g.L.Office.profile c.args.seat c.args.seat h a c.refuse.new.self.hand text) (sym c.in-Refused.is) own in
    subst (λ (s : SeatState). Answered g.L.Office.profile c.args.seat s h c.args.asked c.refuse.new.self.hand text) (sym c.seat-in-Refused.view_is) asked

pub returns-in_ok-refuse_settle-in-Settle-clause-answered : goal.returns-in_ok-refuse_settle-in-Settle-clause-answered
returns-in_ok-refuse_settle-in-Settle-clause-answered g c =
    let h = c.args.hand.now.hand in
    let text = c.in_ok-refuse_settle-in-Settle.field-0.items in
    let own = by_none g.L.Office.profile c.args.seat h c.refuse_settle.new.hand.hand asks.Settle text c.requires.time (refl, c.in_ok-refuse_settle-in-Settle.ensures) in
    let asked = subst (λ (a : Asked). Answered g.L.Office.profile c.args.seat c.args.seat h a c.refuse_settle.new.hand.hand text) (sym c.in-Settle.is) own in
    subst (λ (s : SeatState). Answered g.L.Office.profile c.args.seat s h c.args.asked c.refuse_settle.new.hand.hand text) (sym c.seat-in-Settle.view_is) asked

pub returns-in_ok-answer_chosen-in-Chosen-clause-answered : goal.returns-in_ok-answer_chosen-in-Chosen-clause-answered
returns-in_ok-answer_chosen-in-Chosen-clause-answered g c =
    let h = c.args.hand.now.hand in
    let text = c.in_ok-answer_chosen-in-Chosen.field-0.items in
    let own = by_none g.L.Office.profile c.args.seat h c.answer_chosen.new.hand.hand (asks.Chosen c.in-Chosen.field-0) text c.requires.time (refl, c.in_ok-answer_chosen-in-Chosen.ensures) in
    let asked = subst (λ (a : Asked). Answered g.L.Office.profile c.args.seat c.args.seat h a c.answer_chosen.new.hand.hand text) (sym c.in-Chosen.is) own in
    subst (λ (s : SeatState). Answered g.L.Office.profile c.args.seat s h c.args.asked c.answer_chosen.new.hand.hand text) (sym c.seat-in-Chosen.view_is) asked
