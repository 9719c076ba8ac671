use Rattle.std.proofs.Common.{rules, tests, arith, nat_eq, length, ◌∙◌}
use Rattle.std.proofs.lemmas.List.{length_push}
use Rattle.std.proofs.lemmas.Iterator.Splits.{YieldsList-from_slice_split}
use Rattle.std.proofs.lemmas.Iterator.Consumers.{YieldsList-turn, YieldsList-end}
use Rattle.paris_session.specs.Transcript.{lines}
use Rattle.paris_parts.specs.Parts.{parts}
use Rattle.paris_parts.proofs.Cuts.{line_cut, all_cut}
use Rattle.paris_parts.proofs.parts.parts_of.Goals as goal

pub loop-line-preserved : goal.loop-line-preserved
loop-line-preserved c =
    let split = YieldsList-from_slice_split _ (λ b. nat_eq b 10) c.args.script.now (cc) (cc) (cc) (λ x r q k. search (rules, tests)) in
    let turn = YieldsList-turn split c.loop-line.yielded _ c.loop-line.yielded_by _ _ c.in-Some.line c.in-Some.is c.next.ensures.steps in (
      search rules,
      search rules,
      rw length_push (line_cut (lines c.args.script.now) (length c.loop-line.yielded) c.in-Some.line.now c.loop-line.all.items _ c.loop-line.begun _ _ turn.0 turn.1 c.in_ok-take_line.ensures c.loop-line.invariant.2),
    )

pub returns : goal.returns
unfolding parts
returns c =
    let split = YieldsList-from_slice_split _ (λ b. nat_eq b 10) c.args.script.now (cc) (cc) (cc) (λ x r q k. search (rules, tests)) in
    let end = YieldsList-end split c.loop-line.yielded _ c.loop-line.yielded_by _ _ c.in-None.is c.next.ensures.steps in
    c.in_ok-push.ensures.items ∙ all_cut (lines c.args.script.now) (length c.loop-line.yielded) c.loop-line.all.items c.loop-line.begun _ (omega (arith, end.1)) c.loop-line.invariant.2
