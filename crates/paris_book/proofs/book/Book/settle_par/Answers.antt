use Rattle.std.proofs.Common.{sym, ap, ◌∙◌, subst}
use Rattle.paris_events.specs.Orders.{IsIdle, after_release}
use Rattle.paris_events.specs.State.{State}
use Rattle.paris_events.specs.CutOff.{IsAtRest}
use Rattle.paris_events.proofs.Ends.{idle_recalled}
use Rattle.paris_book.proofs.Endings.{all_rest, all_count, all_are_settled, end_rests, end_due_none, end_fewer, end_stopped}
use Rattle.paris_book.proofs.book.Book.settle_par.Goals as goal

pub run_all-requires-clause-idle : goal.run_all-requires-clause-idle
run_all-requires-clause-idle g c κs within = subst (λ (s : State). IsIdle s.rows) (sym c.release.ensures) (idle_recalled c.self.inside.loose.rows)

pub invariant_of-self : goal.invariant_of-self
invariant_of-self g c = all_rest c.args.self.now c.release.new.self c.run_all.new.self c.in-Ok.ran (subst IsAtRest c.self.view_is c.self.invariant) (c.release.ensures ∙ ap after_release c.self.view_is) c.in-Ok.ensures.advances c.in-Ok.ensures.ok

pub invariant_of-self-then-unsettled_count-eq0 : goal.invariant_of-self-then-unsettled_count-eq0
invariant_of-self-then-unsettled_count-eq0 g c = end_rests c.args.self.now c.release.new.self c.run_all.new.self c.in-Err.fault.ran (subst IsAtRest c.self.view_is c.self.invariant) (c.release.ensures ∙ ap after_release c.self.view_is) c.in-Err.ensures.advances c.cut_off.new.self c.cut_off.ensures

pub returns-then-unsettled_count-eq0-clause-count : goal.returns-then-unsettled_count-eq0-clause-count
returns-then-unsettled_count-eq0-clause-count g c = (end_due_none c.args.self.now c.release.new.self c.run_all.new.self c.in-Err.fault.ran (subst IsAtRest c.self.view_is c.self.invariant) (c.release.ensures ∙ ap after_release c.self.view_is) c.in-Err.ensures.advances c.cut_off.new.self c.cut_off.ensures (sym c.unsettled_count.ensures ∙ c.if-unsettled_count-eq0.true)).0

pub returns-then-unsettled_count-eq0-clause-settled : goal.returns-then-unsettled_count-eq0-clause-settled
returns-then-unsettled_count-eq0-clause-settled g c = (end_due_none c.args.self.now c.release.new.self c.run_all.new.self c.in-Err.fault.ran (subst IsAtRest c.self.view_is c.self.invariant) (c.release.ensures ∙ ap after_release c.self.view_is) c.in-Err.ensures.advances c.cut_off.new.self c.cut_off.ensures (sym c.unsettled_count.ensures ∙ c.if-unsettled_count-eq0.true)).1

pub invariant_of-self-in-Err : goal.invariant_of-self-in-Err
invariant_of-self-in-Err g c = end_rests c.args.self.now c.release.new.self c.run_all.new.self c.in-Err.fault.ran (subst IsAtRest c.self.view_is c.self.invariant) (c.release.ensures ∙ ap after_release c.self.view_is) c.in-Err.ensures.advances c.cut_off.new.self c.cut_off.ensures

pub returns-in-Ok-clause-count : goal.returns-in-Ok-clause-count
returns-in-Ok-clause-count g c = all_count c.args.self.now c.release.new.self c.run_all.new.self c.in-Ok.ran (subst IsAtRest c.self.view_is c.self.invariant) (c.release.ensures ∙ ap after_release c.self.view_is) c.in-Ok.ensures.advances c.in-Ok.ensures.ok

pub returns-in-Ok-clause-settled : goal.returns-in-Ok-clause-settled
returns-in-Ok-clause-settled g c = all_are_settled c.args.self.now c.release.new.self c.run_all.new.self c.in-Ok.ran (subst IsAtRest c.self.view_is c.self.invariant) (c.release.ensures ∙ ap after_release c.self.view_is) c.in-Ok.ensures.advances c.in-Ok.ensures.ok

pub returns-else-unsettled_count-eq0-clause-stopped : goal.returns-else-unsettled_count-eq0-clause-stopped
returns-else-unsettled_count-eq0-clause-stopped g c =
    let rests = subst IsAtRest c.self.view_is c.self.invariant in
    let release = c.release.ensures ∙ ap after_release c.self.view_is in
    let fewer = end_fewer c.args.self.now c.release.new.self c.run_all.new.self c.in-Err.fault.ran rests release c.in-Err.ensures.advances c.cut_off.new.self c.cut_off.ensures (λ none. c.if-unsettled_count-eq0.false (c.unsettled_count.ensures ∙ none)) in
    end_stopped c.args.self.now c.release.new.self c.run_all.new.self c.in-Err.fault.ran rests release c.in-Err.ensures.advances c.cut_off.new.self c.cut_off.ensures fewer
