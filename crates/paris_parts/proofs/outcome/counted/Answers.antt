use Rattle.std.proofs.Common.{◌≡◌, ◌<◌, ◌≤◌, ◌∙◌, ap, length, arith}
use Rattle.paris_parts.specs.Jobs.{Doing}
use Rattle.paris_parts.specs.Texts.{at_seat}
use Rattle.paris_parts.proofs.Telling.{at_is, commands_next, refusals_next}
use Rattle.paris_parts.proofs.outcome.counted.Goals as goal

pub overflow_add-summary : goal.overflow_add-summary
overflow_add-summary g c =
    let few : c.args.count ≤ 16 = c.requires.count.1 in
    let within : c.loop-number.number < length c.args.jobs.now = omega (arith, c.loop-number-test.true, c.requires.count.0) in
    let at = at_is c.args.jobs.now c.loop-number.number c.index-jobs-number.result within c.index-jobs-number.is in
    let own : c.commands.result ≡ (at_seat c.args.jobs.now c.loop-number.number).hand.commands = c.commands.ensures ∙ ap (λ (d : Doing). d.hand.commands) (c.job.view_is ∙ at) in
    let less = c.requires.few c.loop-number.number c.loop-number-test.true in
    omega (arith, few, own, less, c.loop-number.invariant.few, c.loop-number-test.true)

pub loop-number-preserved : goal.loop-number-preserved
loop-number-preserved g c =
    let jobs = c.args.jobs.now in
    let n = c.loop-number.number in
    let within : n < length jobs = omega (arith, c.loop-number-test.true, c.requires.count.0) in
    let at = at_is jobs n c.index-jobs-number.result within c.index-jobs-number.is in
    let commands : c.commands.result ≡ c.index-jobs-number.result.hand.commands = c.commands.ensures ∙ ap (λ (d : Doing). d.hand.commands) c.job.view_is in
    let refusals : c.refusals.result ≡ c.index-jobs-number.result.hand.refusals = c.refusals.ensures.value ∙ ap (λ (d : Doing). d.hand.refusals) c.job.view_is in
    let own : c.commands.result ≡ (at_seat jobs n).hand.commands = commands ∙ ap (λ (d : Doing). d.hand.commands) at in
    let less = c.requires.few n c.loop-number-test.true in
    record {
      commands = commands_next jobs n c.loop-number.summary.commands c.commands.result c.index-jobs-number.result within c.index-jobs-number.is commands c.loop-number.invariant.commands;
      refusals = refusals_next jobs n c.loop-number.summary.refusals c.refusals.result c.index-jobs-number.result within c.index-jobs-number.is refusals c.loop-number.invariant.refusals;
      few = omega (arith, own, less, c.loop-number.invariant.few);
      less = omega (arith, c.loop-number.invariant.less, c.refusals.ensures, c.commands.ensures);
    }

pub returns-clause-few : goal.returns-clause-few
returns-clause-few g c =
    let most : c.args.count ≤ 16 = c.requires.count.1 in
    let all : c.loop-number.number ≤ c.args.count = omega arith in (
      omega (arith, most, all, c.loop-number.invariant.few),
      omega (arith, most, all, c.loop-number.invariant.few, c.loop-number.invariant.less),
    )
