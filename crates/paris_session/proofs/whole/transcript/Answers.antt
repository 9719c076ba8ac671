use Rattle.std.proofs.Common.{rules, tests, arith, nat_eq, length, ap, ◌∙◌, ◌++◌}
use Rattle.std.proofs.lemmas.List.{length_push}
use Rattle.std.proofs.lemmas.Iterator.Splits.{YieldsList-from_slice_split}
use Rattle.std.proofs.lemmas.Iterator.Consumers.{YieldsList-turn, YieldsList-end}
use Rattle.paris_session.specs.Transcript.{lines, transcript}
use Rattle.paris_session.proofs.WholeLemmas.{few_lines, line_done, line_counted, all_said}
use Rattle.paris_session.proofs.whole.transcript.Goals as goal

pub answer-requires-clause-room : goal.answer-requires-clause-room
answer-requires-clause-room c =
    let parts = YieldsList-from_slice_split _ (λ b. nat_eq b 10) c.args.script.now (cc) (cc) (cc) (λ x r q k. search (rules, tests)) in
    let turn = YieldsList-turn parts c.loop-line.yielded _ c.loop-line.yielded_by _ _ c.in-Some.line c.in-Some.is c.next.ensures.steps in
    omega (arith, turn.0, few_lines c.args.script.now, c.loop-line.invariant.3, c.requires)

pub loop-line-preserved : goal.loop-line-preserved
loop-line-preserved c =
    let parts = YieldsList-from_slice_split _ (λ b. nat_eq b 10) c.args.script.now (cc) (cc) (cc) (λ x r q k. search (rules, tests)) in
    let turn = YieldsList-turn parts c.loop-line.yielded _ c.loop-line.yielded_by _ _ c.in-Some.line c.in-Some.is c.next.ensures.steps in
    let answered = c.in-Ok.ensures.ok in
    let longer = c.in_ok-extend_from_slice.ensures.items ∙ ap (λ l. c.loop-line.text.items ++ l) c.as_slice.ensures.value in (
      search rules,
      search rules,
      rw length_push (line_done c.loop-line.session _ (lines c.args.script.now) (length c.loop-line.yielded) c.in-Some.line.now c.loop-line.text.items _ _ _
          turn.0 turn.1 answered longer c.loop-line.invariant.2),
      rw length_push (line_counted c.loop-line.session _ (length c.loop-line.yielded) c.in-Some.line.now _ answered c.loop-line.invariant.3),
    )

pub returns : goal.returns
unfolding transcript
returns c =
    let parts = YieldsList-from_slice_split _ (λ b. nat_eq b 10) c.args.script.now (cc) (cc) (cc) (λ x r q k. search (rules, tests)) in
    let end = YieldsList-end parts c.loop-line.yielded _ c.loop-line.yielded_by _ _ c.in-None.is c.next.ensures.steps in
    all_said c.loop-line.session (lines c.args.script.now) (length c.loop-line.yielded) c.loop-line.text.items _ (omega (arith, end.1)) c.loop-line.invariant.2
