use Rattle.std.proofs.Common.{ℕ, List, sym, ap, ◌∙◌, subst}
use Rattle.paris_events.specs.Show.{show_reply}
use Rattle.paris_events.specs.declared.events.Reply.TheVariants as reply
use Rattle.paris_records.specs.History.{state_of}
use Rattle.paris_desk.specs.Seats.{SeatState}
use Rattle.paris_view.specs.Looks.{Looked}
use Rattle.paris_session.specs.Hands.{told}
use Rattle.paris_session.specs.declared.asked.Asked.TheVariants as asks
use Rattle.paris_parts.specs.Moving.{Answered}
use Rattle.paris_parts.proofs.Playing.{by_look, missed_so}
use Rattle.paris_parts.proofs.players.answer_look.Goals as goal

pub returns-in_ok-text-in-Ok-clause-answered : goal.returns-in_ok-text-in-Ok-clause-answered
returns-in_ok-text-in-Ok-clause-answered g c =
    let h = c.args.hand.now.hand in
    let met : Looked g.L.Office.profile c.args.seat c.end.result = subst (Looked g.L.Office.profile c.args.seat) (sym c.end.ensures) c.in-Ok.ensures.met in
    let said = c.in_ok-text-in-Ok.ensures.ok
    ∙ ap (λ a. told h (reply.Show a)) (c.look-in-Ok.ensures ∙ c.in-Ok.ensures.answer ∙ ap (λ (s : SeatState). show_reply (state_of g.L.Office.profile s.past) c.args.key c.args.spot) (sym c.end.ensures)) in
    by_look g.L.Office.profile c.args.seat c.end.result h c.tell_look-text.new.self.hand c.args.key c.args.spot c.in_ok-text-in-Ok.field-0.items c.requires.time met said

pub returns-in_ok-refuse-in-Err-clause-answered : goal.returns-in_ok-refuse-in-Err-clause-answered
returns-in_ok-refuse-in-Err-clause-answered g c =
    let h = c.args.hand.now.hand in
    let missed = missed_so g.L.Office.profile c.args.key c.args.spot c.args.seat c.in-Err.seat c.in-Err.fault (sym c.is_unmet.ensures ∙ c.if-is_unmet.false) c.in-Err.ensures.missed in
    let said = c.in_ok-refuse-in-Err.ensures.ok ∙ ap (λ a. told h (reply.Show a)) missed.1 in
    subst (λ (s : SeatState). Answered g.L.Office.profile c.args.seat s h (asks.Look c.args.key c.args.spot) c.refuse.new.self.hand c.in_ok-refuse-in-Err.field-0.items) (sym c.seat.view_is)
    (by_look g.L.Office.profile c.args.seat c.in-Err.seat h c.refuse.new.self.hand c.args.key c.args.spot c.in_ok-refuse-in-Err.field-0.items c.requires.time missed.0 said)
