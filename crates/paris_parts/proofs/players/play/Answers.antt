use Rattle.std.proofs.Common.{◌≡◌, ◌<◌, ℕ, List, ◌++◌, length, arith, sym, ap, ◌∙◌}
use Rattle.std.specs.List.{list_all}
use Rattle.paris_session.specs.Hands.{is_skipped}
use Rattle.paris_parts.proofs.Playing.{not_all, on_err, play_next, told_line}
use Rattle.paris_parts.proofs.players.play.Goals as goal

pub loop-line-preserved : goal.loop-line-preserved
loop-line-preserved g c =
    let longer = c.in_ok-extend_from_slice.ensures.items ∙ ap (λ (l : List ℕ). c.loop-line.text.items ++ l) c.as_slice-in-loop-line.ensures.value in
    let next =
    play_next g.L.Office.profile c.args.seat c.loop-line.seat c.in_ok-next.next c.lines-lines.result.now c.loop-line.line-index c.line-item.result c.loop-line.hand.hand c.answer.new.hand.hand
    c.loop-line.text.items c.extend_from_slice.new.self.items c.in_ok-next.reply.items c.as_slice.result.now c.loop-line-test.true c.line-item.is c.as_slice.ensures.value longer
    c.loop-line.invariant.0 c.loop-line.invariant.1 c.in_ok-next.ensures.answered in
    (next.0, next.1, c.in_ok-next.ensures.answered.2.0.1)

pub returns-in_err-next-clause-needed : goal.returns-in_err-next-clause-needed
returns-in_err-next-clause-needed g c =
    let kept = ap is_skipped (sym c.as_slice.ensures.value) ∙ c.in_err-next.ensures.needed in
    on_err c.from_residual.result _ (ap (list_all (λ l. is_skipped l)) (sym c.lines-lines.ensures)
    ∙ not_all c.lines-lines.result.now c.loop-line.line-index c.line-item.result c.loop-line-test.true c.line-item.is kept)

pub returns-in_err-extend_from_slice-clause-needed : goal.returns-in_err-extend_from_slice-clause-needed
returns-in_err-extend_from_slice-clause-needed g c =
    let same : length c.as_slice-in-loop-line.result.now ≡ length c.in_ok-next.reply.items = ap length c.as_slice-in-loop-line.ensures.value in
    let some : 0 < length c.in_ok-next.reply.items = omega (arith, same, c.in_err-extend_from_slice.ensures.full, c.loop-line.text.ok.1) in
    let told =
    told_line g.L.Office.profile c.loop-line.seat c.in_ok-next.next c.loop-line.hand.hand c.answer.new.hand.hand c.as_slice.result.now c.in_ok-next.reply.items c.in_ok-next.ensures.answered some in
    let kept = ap is_skipped (sym c.as_slice.ensures.value) ∙ told in
    on_err c.from_residual-in_err-extend_from_slice.result _ (ap (list_all (λ l. is_skipped l)) (sym c.lines-lines.ensures)
    ∙ not_all c.lines-lines.result.now c.loop-line.line-index c.line-item.result c.loop-line-test.true c.line-item.is kept)
