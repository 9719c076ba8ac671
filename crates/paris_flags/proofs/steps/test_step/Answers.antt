use Rattle.std.proofs.Common.{◌≡◌, ◌∙◌, sym, subst}
use Rattle.std.proofs.lemmas.Result.{on_ok_weaker}
use Rattle.paris_plane.specs.Bits.{zip3}
use Rattle.paris_flags.specs.Steps.{test_bit}
use Rattle.paris_flags.proofs.Lists.{set_where, cleared_where}
use Rattle.paris_flags.proofs.steps.test_step.Goals as goal

pub returns-in-Set-clause-ok : goal.returns-in-Set-clause-ok
returns-in-Set-clause-ok c = on_ok_weaker c.put.result (λ is. subst (λ s. c.put.new.self ≡ zip3 (test_bit s) c.args.test.now c.args.operand.now c.args.context.now) (sym c.in-Set.is) (is ∙ set_where c.args.test.now c.args.operand.now c.args.context.now c.requires.operand c.requires.context)) c.put.ensures.ok

pub returns-in-Clear-clause-ok : goal.returns-in-Clear-clause-ok
returns-in-Clear-clause-ok c = on_ok_weaker c.put-in-Clear.result (λ is. subst (λ s. c.put-in-Clear.new.self ≡ zip3 (test_bit s) c.args.test.now c.args.operand.now c.args.context.now) (sym c.in-Clear.is) (is ∙ cleared_where c.args.test.now c.args.operand.now c.args.context.now c.requires.operand c.requires.context)) c.put-in-Clear.ensures.ok
