use Rattle.std.proofs.Common.{◌≡◌, ◌∙◌, ap, false, true, sym, subst, replicate, ℕ}
use Rattle.std.specs.Simd.Lanes.{zip2}
use Rattle.paris_flags.specs.Steps.{context_bit}
use Rattle.paris_flags.proofs.Lists.{replicate_beside, not_beside, second_of}
use Rattle.paris_flags.proofs.steps.context_step.Goals as goal

pub returns-in-Set-clause-ok : goal.returns-in-Set-clause-ok
returns-in-Set-clause-ok c = subst (λ s. c.filled.result ≡ zip2 (context_bit s) c.args.context.now c.args.operand.now) (sym c.in-Set.is) (c.filled.ensures ∙ ap (λ (n : ℕ). replicate n true) c.len.ensures ∙ replicate_beside true c.args.context.now c.args.operand.now c.requires)

pub returns-in-Clear-clause-ok : goal.returns-in-Clear-clause-ok
returns-in-Clear-clause-ok c = subst (λ s. c.filled-in-Clear.result ≡ zip2 (context_bit s) c.args.context.now c.args.operand.now) (sym c.in-Clear.is) (c.filled-in-Clear.ensures ∙ ap (λ (n : ℕ). replicate n false) c.len-in-Clear.ensures ∙ replicate_beside false c.args.context.now c.args.operand.now c.requires)

pub returns-in-Invert-clause-ok : goal.returns-in-Invert-clause-ok
returns-in-Invert-clause-ok c = subst (λ s. c.not_in.new.self ≡ zip2 (context_bit s) c.args.context.now c.args.operand.now) (sym c.in-Invert.is) (c.not_in.ensures ∙ not_beside c.args.context.now c.args.operand.now c.requires)

pub returns-in_ok-context-in-Load-clause-ok : goal.returns-in_ok-context-in-Load-clause-ok
returns-in_ok-context-in-Load-clause-ok c = subst (λ s. c.in_ok-context-in-Load.field-0 ≡ zip2 (context_bit s) c.args.context.now c.args.operand.now) (sym c.in-Load.is) (c.in_ok-context-in-Load.ensures ∙ second_of c.args.context.now c.args.operand.now c.requires)
