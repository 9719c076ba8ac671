use Rattle.std.proofs.Common.{◌≡◌, ap, ◌∙◌}
use Rattle.paris_session.specs.Hands.{faults_told}
use Rattle.paris_parts.proofs.Playing.{by_list}
use Rattle.paris_parts.proofs.players.answer_faults.Goals as goal

pub returns-clause-answered : goal.returns-clause-answered
returns-clause-answered g c =
    let h = c.args.hand.now.hand in
    let rows_are : c.as_slice.result.now ≡ c.in_ok-looks.looks = c.as_slice.ensures in
    let said = c.in_ok-tell_faults.ensures ∙ ap (λ rows. faults_told h rows) rows_are in
    by_list g.L.Office.profile c.args.seat.now c.list.new.seat h c.tell_faults.new.hand.hand c.in_ok-looks.looks c.in_ok-tell_faults.field-0.items c.requires.time c.in_ok-looks.ensures.recorded said
